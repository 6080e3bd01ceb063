use Rattle.std.proofs.Common.{◌≡◌, ◌∙◌, ap, ap₂, ◌+◌, ◌-◌, ◌<◌, ◌++◌, cond, ℕ, [], flat_map, length}
use Rattle.std.proofs.Common.{append_assoc, rules, arith}
use Rattle.std.specs.List.{range_with_len}
use Rattle.bw_lanes.specs.Lanes.{bytes_of_lanes}
use Rattle.bw_model.specs.Code.{width_at}
use Rattle.bw_model.specs.Variable.{is_nullable}
use Rattle.bw_segment.specs.Packing.{block_bytes, segment_bytes}
use Rattle.bw_segment.specs.Meaning.{null_bits, stored_codes}
use Rattle.bw_segment.proofs.LayoutLemmas.{block_more}
use Rattle.bw_segment.proofs.build.blocks_of.Goals as goal

pub loop-col-init : goal.loop-col-init
unfolding segment_bytes
loop-col-init g c = λ rows keep.
    let columns = c.args.placement.now.schema.columns.items in
    let blocks = λ (column : ℕ). block_bytes g.L.CodeLayout.packing columns column rows in
    ap₂ (λ l n. l ++ flat_map blocks (range_with_len 0 n)) c.in_ok-bytes.ensures.items (omega arith)

pub loop-col-preserved : goal.loop-col-preserved
loop-col-preserved g c = λ rows keep.
    let columns = c.args.placement.now.schema.columns.items in
    let col = c.loop-col.col in
    let count : c.len-count.result ≡ length columns = search rules in
    let there : col < length columns = omega (arith, count) in
    let blocks = λ (column : ℕ). block_bytes g.L.CodeLayout.packing columns column rows in
    let added = c.in_ok-push_block.ensures.added rows (keep.codes col there) (keep.nulls col there) in
    ap (λ l. l ++ flat_map blocks (range_with_len (col + 1) (length columns - (col + 1)))) added
    ∙ block_more blocks c.loop-col.bytes.items (length columns) col there ∙ c.loop-col.invariant rows keep
