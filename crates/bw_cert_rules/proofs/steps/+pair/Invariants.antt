use Rattle.std.proofs.Common.{◌≡◌, map, drop}
use Rattle.bw_cert_text.specs.BodyLines.{body_lines}
use Rattle.bw_cert_rules.specs.Pair.{joined_parts, more_parts, pair_of}
use Rattle.bw_cert_rules.proofs.steps.+pair.Given as goal

-- the pair so far, and what the parts to come make of it
abbrev pub invariant-combine_parts-loop-part : goal.invariant-combine_parts-loop-part
invariant-combine_parts-loop-part l =
    let columns = l.schema.columns.items in
    let reader = pair_of columns l.diagram l.end in
    joined_parts columns l.diagram l.end l.junction (map reader l.parts) (body_lines l.lines) ≡ more_parts columns l.diagram l.end l.junction (map reader (drop l.part-index l.others)) (l.made, body_lines l.left)
