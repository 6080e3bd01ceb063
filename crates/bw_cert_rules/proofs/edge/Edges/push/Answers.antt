-- One more edge.
use Rattle.std.proofs.Common.{◌≡◌, ◌∙◌, sym, ap, subst, ◌<◌, List, [], ◌∷◌, ◌++◌, length, map}
use Rattle.std.proofs.Common.{get_or, Vec, Global, set}
use Rattle.std.proofs.Math.Seq.{map-set}
use Rattle.std.proofs.lemmas.List.{get_or-map, length-map}
use Rattle.bw_cert_rules.specs.declared.edge.Edge.{Edge}
use Rattle.bw_cert_rules.specs.Edges.{Holds}
use Rattle.bw_cert_rules.proofs.EdgeLemmas.{holds_more}
use Rattle.bw_cert_rules.proofs.edge.Edges.push.Goals as goal

pub returns-clause-holds : goal.returns-clause-holds
returns-clause-holds c edges holds =
    let inside : List (Vec Edge Global) = c.self.inside.by_target.items in
    let items : Vec Edge Global → List Edge = λ each. each.items in
    let now : List (List Edge) = map items inside in
    let view : now ≡ c.args.self.now = c.self.view_is in
    let there : c.args.edge.target < length now = subst (λ now. c.args.edge.target < length now) (sym view) c.requires in
    let within : c.args.edge.target < length inside = subst (λ n. c.args.edge.target < n) (length-map inside items) there in
    let old : get_or now c.args.edge.target [] ≡ c.index_mut.result.now.items =
    get_or-map items inside c.args.edge.target c.index_mut.result.now [] within ∙ ap items (sym c.index_mut.ensures.value) in
    let written : set now c.args.edge.target (get_or now c.args.edge.target [] ++ c.args.edge ∷ []) ≡ map items (set inside c.args.edge.target c.push.new.self) =
    ap (λ es. set now c.args.edge.target (es ++ c.args.edge ∷ [])) old
    ∙ ap (set now c.args.edge.target) (sym c.in_ok-push.ensures.items)
    ∙ sym (map-set items inside c.args.edge.target c.push.new.self) in
    subst (λ by_target. Holds by_target (edges ++ c.args.edge ∷ [])) written
    (holds_more now edges c.args.edge there (subst (λ by_target. Holds by_target edges) (sym view) holds))
