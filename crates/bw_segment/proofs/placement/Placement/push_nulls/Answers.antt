use Rattle.std.proofs.Common.{◌∙◌, sym, ap, ◌++◌, cond, [], map, ◌==◌}
use Rattle.std.specs.Int.{bit_at}
use Rattle.bw_lanes.specs.Lanes.{bytes_of_lanes}
use Rattle.bw_segment.specs.Meaning.{null_bits}
use Rattle.bw_segment.proofs.LaneLemmas.{bits_of_numbers}
use Rattle.bw_segment.proofs.PlacementLemmas.{nullable_read}
use Rattle.bw_segment.proofs.placement.Placement.push_nulls.Goals as goal

pub returns-clause-added : goal.returns-clause-added
returns-clause-added c = λ rows held.
    let columns = c.args.self.now.schema.columns.items in
    let nullable = nullable_read columns c.args.col c.index.result.now c.requires c.index.ensures ∙ c.if-not-index.false in
    let bits = c.bytes_bit.ensures ∙ ap (map (λ byte. bit_at byte 0 == 1)) held ∙ bits_of_numbers (null_bits rows c.args.col) in
    c.in_ok-extend_from_slice.ensures.items ∙ ap (λ l. c.args.bytes.now.items ++ l) (c.to_bytes-added.ensures ∙ ap bytes_of_lanes bits)
    ∙ ap (λ b. c.args.bytes.now.items ++ cond b (bytes_of_lanes (null_bits rows c.args.col)) []) (sym nullable)
