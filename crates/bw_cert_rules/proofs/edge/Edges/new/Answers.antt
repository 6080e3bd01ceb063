-- No edges.
use Rattle.std.proofs.Common.{◌≡◌, ◌∙◌, sym, ap, ap₂, subst, ◌+◌, List, [], ◌∷◌, ◌++◌, length, map}
use Rattle.std.proofs.Common.{replicate, arith}
use Rattle.std.proofs.lemmas.List.{length-replicate, map-append}
use Rattle.bw_cert_rules.specs.declared.edge.Edge.{Edge}
use Rattle.bw_cert_rules.specs.Edges.{Holds}
use Rattle.bw_cert_rules.proofs.EdgeLemmas.{none_by_target, replicate-more, suc-is}
use Rattle.bw_cert_rules.proofs.edge.Edges.new.Goals as goal

pub loop-init : goal.loop-init
loop-init c = record { empty = ap (map (λ each. each.items)) (c.in_ok-by_target.ensures.items) }

pub loop-preserved : goal.loop-preserved
loop-preserved c =
    record {
      empty = ap (map (λ each. each.items)) c.in_ok-push.ensures.items
          ∙ map-append (λ each. each.items) c.loop.by_target.items (c.new.result ∷ [])
          ∙ ap₂ (λ (xs ys : List (List Edge)). xs ++ ys) c.loop.invariant.empty (ap (λ (es : List Edge). es ∷ []) c.new.ensures.items)
          ∙ replicate-more c.loop.counter []
          ∙ ap (λ n. replicate n []) (suc-is c.loop.counter);
    }

pub returns : goal.returns
returns c =
    let all : c.loop.counter ≡ c.args.last + 1 = omega (arith, c.loop-test.false, c.loop.auto.counter-end) in
    let empty : List (List Edge) = replicate (c.args.last + 1) [] in
    let is : empty ≡ map (λ each. each.items) c.loop.by_target.items = ap (λ n. replicate n []) (sym all) ∙ sym c.loop.invariant.empty in
    subst (λ edges. (length edges ≡ c.args.last + 1) × Holds edges []) is (length-replicate (c.args.last + 1) [], none_by_target (c.args.last + 1))
