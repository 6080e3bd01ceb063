use Rattle.std.proofs.Common.{◌≡◌, drop}
use Rattle.bw_cert_text.specs.BodyLines.{body_lines}
use Rattle.bw_model.specs.declared.junction.Junction.TheVariants.{Any}
use Rattle.bw_cert_rules.specs.Pair.{joined_parts, more_parts, equations}
use Rattle.bw_cert_rules.proofs.steps.read_list.Given as goal

-- the pair so far, and what the items to come make of it
abbrev pub invariant-loop-item : goal.invariant-loop-item
invariant-loop-item l =
    let columns = l.schema.columns.items in
    joined_parts columns l.diagram l.end Any (equations columns l.diagram l.end l.x l.items) (body_lines l.lines) ≡ more_parts columns l.diagram l.end Any (equations columns l.diagram l.end l.x (drop l.item-index l.others)) (l.made, body_lines l.left)
