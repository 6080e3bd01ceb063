-- Conditions of different kinds have different trees, and equal ones equal parts.
use Rattle.std.proofs.Common.{◌≡◌, ◌∙◌, ◌++◌, ◌<◌, [], ◌∷◌, List, refl, ap, ap₂, sym, length, map, get_or, rules}
use Rattle.std.proofs.lemmas.List.{get_or-map, map_more}
use Rattle.bw_model.specs.CondTree.{CondTree, And, Or, tree_of}
use Rattle.bw_model.proofs.TreeLemmas.{tree_of-Always, tree_of-Cmp, tree_of-Between, tree_of-Among}
use Rattle.bw_model.proofs.TreeLemmas.{tree_of-IsNull, tree_of-And, tree_of-Or, tree_of-Not}
use Rattle.bw_model.proofs.TreeLemmas.{tree_of-Test}
use Rattle.bw_model.proofs.KindLemmas.{tree_kind, not_always, not_cmp, not_between, not_among}
use Rattle.bw_model.proofs.KindLemmas.{not_is_null, not_and, not_or, not_not, not_test, parts_same}
use Rattle.bw_model.proofs.+is_same.Goals as goal

pub cond::Cond::is_same-returns-in_default-clause-complete : goal.cond::Cond::is_same-returns-in_default-clause-complete
cond::Cond::is_same-returns-in_default-clause-complete t c = λ is. absurd (not_always c.args.other.now c.in_default.not-Always-1 (ap tree_kind (sym is ∙ ap tree_of c.in_default.is-0 ∙ tree_of-Always)))

pub cond::Cond::is_same-returns-in_default-2-clause-complete : goal.cond::Cond::is_same-returns-in_default-2-clause-complete
cond::Cond::is_same-returns-in_default-2-clause-complete t c = λ is. absurd (not_cmp c.args.other.now c.in_default.not-Cmp-1 (ap tree_kind (sym is ∙ ap tree_of c.in_default.is-0 ∙ tree_of-Cmp _ _ _)))

pub cond::Cond::is_same-returns-in_default-3-clause-complete : goal.cond::Cond::is_same-returns-in_default-3-clause-complete
cond::Cond::is_same-returns-in_default-3-clause-complete t c = λ is. absurd (not_between c.args.other.now c.in_default.not-Between-1 (ap tree_kind (sym is ∙ ap tree_of c.in_default.is-0 ∙ tree_of-Between _ _ _)))

pub cond::Cond::is_same-returns-in_default-4-clause-complete : goal.cond::Cond::is_same-returns-in_default-4-clause-complete
cond::Cond::is_same-returns-in_default-4-clause-complete t c = λ is. absurd (not_among c.args.other.now c.in_default.not-Among-1 (ap tree_kind (sym is ∙ ap tree_of c.in_default.is-0 ∙ tree_of-Among _ _)))

pub cond::Cond::is_same-returns-in_default-5-clause-complete : goal.cond::Cond::is_same-returns-in_default-5-clause-complete
cond::Cond::is_same-returns-in_default-5-clause-complete t c = λ is. absurd (not_is_null c.args.other.now c.in_default.not-IsNull-1 (ap tree_kind (sym is ∙ ap tree_of c.in_default.is-0 ∙ tree_of-IsNull _)))

pub cond::Cond::is_same-returns-in_default-6-clause-complete : goal.cond::Cond::is_same-returns-in_default-6-clause-complete
cond::Cond::is_same-returns-in_default-6-clause-complete t c = λ is. absurd (not_and c.args.other.now c.in_default.not-And-1 (ap tree_kind (sym is ∙ ap tree_of c.in_default.is-0 ∙ tree_of-And _)))

pub cond::Cond::is_same-returns-in_default-7-clause-complete : goal.cond::Cond::is_same-returns-in_default-7-clause-complete
cond::Cond::is_same-returns-in_default-7-clause-complete t c = λ is. absurd (not_or c.args.other.now c.in_default.not-Or-1 (ap tree_kind (sym is ∙ ap tree_of c.in_default.is-0 ∙ tree_of-Or _)))

pub cond::Cond::is_same-returns-in_default-8-clause-complete : goal.cond::Cond::is_same-returns-in_default-8-clause-complete
cond::Cond::is_same-returns-in_default-8-clause-complete t c = λ is. absurd (not_not c.args.other.now c.in_default.not-Not-1 (ap tree_kind (sym is ∙ ap tree_of c.in_default.is-0 ∙ tree_of-Not _)))

pub cond::Cond::is_same-returns-in_default-9-clause-complete : goal.cond::Cond::is_same-returns-in_default-9-clause-complete
cond::Cond::is_same-returns-in_default-9-clause-complete t c = λ is. absurd (not_test c.args.other.now c.in_default.not-Test-1 (ap tree_kind (sym is ∙ ap tree_of c.in_default.is-0 ∙ tree_of-Test _ _)))

pub cond::Cond::is_same-returns-in-And-And-clause-complete : goal.cond::Cond::is_same-returns-in-And-And-clause-complete
cond::Cond::is_same-returns-in-And-And-clause-complete t c = λ is.
    let trees = parts_same And _ _ (λ parts. refl) (sym (ap tree_of c.in-And-And.is-0 ∙ tree_of-And _) ∙ is ∙ ap tree_of c.in-And-And.is-1 ∙ tree_of-And _) in
    c.are_same.ensures.complete (ap (map tree_of) c.deref-in-And-And.ensures.value ∙ trees ∙ sym (ap (map tree_of) c.deref-in-And-And-2.ensures.value))

pub cond::Cond::is_same-returns-in-Or-Or-clause-complete : goal.cond::Cond::is_same-returns-in-Or-Or-clause-complete
cond::Cond::is_same-returns-in-Or-Or-clause-complete t c = λ is.
    let trees = parts_same Or _ _ (λ parts. refl) (sym (ap tree_of c.in-Or-Or.is-0 ∙ tree_of-Or _) ∙ is ∙ ap tree_of c.in-Or-Or.is-1 ∙ tree_of-Or _) in
    c.are_same-in-Or-Or.ensures.complete (ap (map tree_of) c.deref-in-Or-Or.ensures.value ∙ trees ∙ sym (ap (map tree_of) c.deref-in-Or-Or-2.ensures.value))

pub equality::are_same-returns-then-not-is_same-clause-complete : goal.equality::are_same-returns-then-not-is_same-clause-complete
equality::are_same-returns-then-not-is_same-clause-complete t c = λ is.
    let i = c.loop-place.place in
    let a = c.index-conds-place.result in
    let b = c.index-others-place.result in
    let within : i < length c.args.others.now = (search rules) in
    let first : get_or (map tree_of c.args.conds.now) i (tree_of a) ≡ tree_of a =
    get_or-map tree_of c.args.conds.now i a (tree_of a) c.loop-place-test.true ∙ ap tree_of (sym c.index-conds-place.is) in
    let second : get_or (map tree_of c.args.others.now) i (tree_of a) ≡ tree_of b =
    get_or-map tree_of c.args.others.now i b (tree_of a) within ∙ ap tree_of (sym c.index-others-place.is) in
    let equal = c.is_same.ensures.complete (sym first ∙ ap (λ (trees : List CondTree). get_or trees i (tree_of a)) is ∙ second) in
    absurd (cc (sym equal ∙ c.if-not-is_same.true))

pub equality::are_same-loop-place-preserved : goal.equality::are_same-loop-place-preserved
equality::are_same-loop-place-preserved t c =
    let conds = c.args.conds.now in
    let others = c.args.others.now in
    let i = c.loop-place.place in
    let a = c.index-conds-place.result in
    let b = c.index-others-place.result in
    let within : i < length others = (search rules) in
    map_more tree_of conds i a c.loop-place-test.true
    ∙ ap₂ (λ (those : List CondTree) (tree : CondTree). those ++ tree ∷ []) c.loop-place.invariant
    (ap tree_of (sym c.index-conds-place.is) ∙ c.is_same.ensures.same c.if-not-is_same.false ∙ ap tree_of c.index-others-place.is)
    ∙ sym (map_more tree_of others i b within)
