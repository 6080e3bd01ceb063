-- Once the rows that were gathered are added, the answer is over all rows.
use Rattle.std.proofs.Common.{◌≡◌, ◌∙◌, ◌++◌, [], List, ap, append-nil, length, refl, subst, sym, arith, ◌∷◌}
use Rattle.std.proofs.lemmas.Result.{IfOk-weaker}
use Rattle.bw_model.specs.Row.{Value}
use Rattle.bw_answer.specs.Answer.{csv_text, meaning}
use Rattle.bw_answer.specs.GatheredProgress.{HasTaken, TakesOver}
use Rattle.bw_answer.specs.declared.gathered.GatheredAnswer.{GatheredAnswer}
use Rattle.bw_answer.proofs.gathered.GatheredAnswer.into_text.Goals as goal

takes_none : (answer : GatheredAnswer) → TakesOver answer [] answer
takes_none answer = record {
  same = refl;
  taken = λ names query before has. subst (λ (rows : List (List Value)). HasTaken names query rows answer) (sym (append-nil before)) has;
}

nothing_left : (rows before group : List (List Value)) → rows ++ [] ≡ before ++ group → length group ≡ 0 → before ≡ rows
nothing_left rows before [] parts none = sym (append-nil before) ∙ sym parts ∙ append-nil rows
nothing_left rows before (row ∷ group) parts none = absurd (omega (arith, none))

pub returns-clause-text : goal.returns-clause-text
returns-clause-text c =
    IfOk-weaker c.into_text.result _ _ (λ text whole names query rows has.
    let now = (c.in_ok-flush.ensures.taken c.args.self [] (takes_none c.args.self)).taken names query rows has in
    let all = nothing_left rows now.before now.group now.parts (now.holds.many ∙ c.in_ok-flush.ensures.empty) in
    whole names query now.before now.over ∙ ap (λ (those : List (List Value)). csv_text (meaning names query those)) all) c.into_text.ensures.text
