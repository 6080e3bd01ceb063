use Rattle.std.proofs.Common.{◌∙◌, ap₂, ◌++◌, cond, [], append_assoc}
use Rattle.bw_lanes.specs.Lanes.{bytes_of_lanes}
use Rattle.bw_model.specs.Code.{width_at}
use Rattle.bw_model.specs.Variable.{is_nullable}
use Rattle.bw_segment.specs.Packing.{block_bytes}
use Rattle.bw_segment.specs.Meaning.{null_bits, stored_codes}
use Rattle.bw_segment.proofs.build.push_block.Goals as goal

pub returns-clause-added : goal.returns-clause-added
unfolding block_bytes
returns-clause-added g c = λ rows codes nulls.
    let text = g.L.CodeLayout.packing.bytes in
    let columns = c.args.placement.now.schema.columns.items in
    let col = c.args.col in
    let front = cond (is_nullable columns col) (bytes_of_lanes (null_bits rows col)) [] in
    let back = text (width_at columns col) (stored_codes columns rows col) in
    c.in_ok-push_codes.ensures.added ∙ ap₂ ◌++◌ (c.in_ok-push_nulls.ensures.added rows nulls) (ap₂ text c.width.ensures.width codes) ∙ append_assoc c.args.bytes.now.items front back
