-- The rows of the segment of a number.
use Rattle.std.proofs.Common.{◌∙◌, refl, arith}
use Rattle.bw_model.specs.Groups.{group_size}
use Rattle.bw_memory.proofs.StoredSegmentLemmas.{rows_cut}
use Rattle.bw_memory.proofs.table.MemoryTable.placed_segment.Goals as goal

pub overflow_sub-self : goal.overflow_sub-self
unfolding group_size
overflow_sub-self g c = omega (arith, c.args.self.now.kept.nonempty c.args.number c.requires.number)

pub overflow_mul-number : goal.overflow_mul-number
unfolding group_size
overflow_mul-number g c = omega (arith, c.args.self.now.kept.nonempty c.args.number c.requires.number)

pub of_columns-requires-clause-nonempty : goal.of_columns-requires-clause-nonempty
unfolding group_size
of_columns-requires-clause-nonempty g c = omega (arith, c.min-rows.ensures, c.args.self.now.kept.nonempty c.args.number c.requires.number)

pub of_columns-requires-clause-within_limit : goal.of_columns-requires-clause-within_limit
unfolding group_size
of_columns-requires-clause-within_limit g c = omega (arith, c.min-rows.ensures)

pub of_columns-requires-clause-sound : goal.of_columns-requires-clause-sound
of_columns-requires-clause-sound g c =
    let table = c.args.self.now in
    let rows = rows_cut table.rows c.args.number c.min-rows.result c.min-rows.ensures in
    rw (c.requires.placed, c.deref.ensures.value, rows, ← c.requires.layout) (table.kept.sound c.args.number c.requires.number)

pub returns-clause-means : goal.returns-clause-means
returns-clause-means g c =
    let table = c.args.self.now in
    let rows = rows_cut table.rows c.args.number c.min-rows.result c.min-rows.ensures in
    c.of_columns.ensures.means ∙ rw (c.requires.placed, c.deref.ensures.value, rows, ← c.requires.layout) refl
