-- A segment that is there begins within the table's rows.
use Rattle.std.proofs.Common.{◌∙◌, ◌-◌, ◌*◌, ◌<◌, ℕ, ap, arith, min, sym}
use Rattle.bw_model.specs.Groups.{group_size}
use Rattle.bw_segment.specs.ColumnBlocks.{segment_numbered}
use Rattle.bw_segment.proofs.SoundLemmas.{length-rows_spelled}
use Rattle.bw_file.specs.Blocks.{form_of}
use Rattle.bw_memory.specs.MemoryTable.{layout_of, schema_of, segments_in}
use Rattle.bw_memory.specs.StoredSegments.{rows_numbered}
use Rattle.bw_memory.specs.declared.table.MemoryTable.{MemoryTable}
use Rattle.bw_memory.proofs.StoredSegmentLemmas.{rows_cut}
use Rattle.bw_query.proofs.CountedLemmas.{rows_is}
use Rattle.bw_query.proofs.settled.rows_in.Goals as goal

-- the first row of a segment
begins : (table : MemoryTable) (number : ℕ) → number < segments_in table → 512 * number < table.rows
unfolding group_size
begins table number there = table.kept.nonempty number there

pub overflow_mul-number : goal.overflow_mul-number
overflow_mul-number c = omega (arith, begins c.args.table.now c.args.number c.requires, c.args.table.now.within_limit)

pub overflow_sub-rows : goal.overflow_sub-rows
overflow_sub-rows c = omega (arith, begins c.args.table.now c.args.number c.requires, c.rows.ensures, rows_is c.args.table.now)

pub returns : goal.returns
returns c =
    let table = c.args.table.now in
    let number = c.args.number in
    let cut = rows_cut table.rows number c.min.result (c.min.ensures ∙ ap (λ (rows : ℕ). min (rows - 512 * number) 512) (c.rows.ensures ∙ rows_is table)) in
    cut ∙ sym (length-rows_spelled (form_of (layout_of table)) (schema_of table).columns.items (rows_numbered table.rows number) (segment_numbered table.columns.items number))
