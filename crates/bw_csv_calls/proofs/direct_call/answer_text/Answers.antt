-- The answer has taken the rows that the CSV text spells.
use Rattle.std.proofs.Common.{◌≡◌, ◌∙◌, ℕ, List, [], true, false, Result, Ok, Err, sym, ap, IfOk}
use Rattle.std.proofs.Common.{IfErr, IsOkAnd, Vec, Global}
use Rattle.std.proofs.lemmas.Result.{IfOk-weaker}
use Rattle.bw_model.specs.declared.fault.Fault.{Fault}
use Rattle.bw_model.specs.Column.{names_of}
use Rattle.bw_model.specs.Fault.{no_memory, ◌>>=◌}
use Rattle.bw_model.specs.Row.{Value}
use Rattle.bw_csv.specs.Rows.{rows_of, MatchesUnlessExempt, is_exempt}
use Rattle.bw_answer.specs.Answer.{csv_text, meaning}
use Rattle.bw_answer.specs.GatheredProgress.{TakesOver}
use Rattle.bw_answer.specs.declared.gathered.GatheredAnswer.{GatheredAnswer}
use Rattle.bw_csv_calls.proofs.direct_call.answer_text.Goals as goal

-- what is answered once the rows are read
gives_rows : (answer : List (List Value) → List ℕ) (old new : GatheredAnswer) (rows : Result (List (List Value)) Fault) (result : Result (Vec ℕ Global) Fault)
    → IsOkAnd rows (λ those. TakesOver old those new)
    → ((those : List (List Value)) → TakesOver old those new → IfOk result (λ text. text.items ≡ answer those)) → IfErr result (λ fault. fault ≡ no_memory)
    → MatchesUnlessExempt (λ text. text.items) result (rows >>= λ those. Ok (answer those))
gives_rows answer old new (Err fault) result handed text memory = absurd handed
gives_rows answer old new (Ok those) (Ok bytes) handed text memory = ap (λ (l : List ℕ). Ok l) (sym (text those handed))
gives_rows answer old new (Ok those) (Err fault) handed text memory =
    λ aside. let e : true ≡ false = sym (ap is_exempt memory) ∙ aside in absurd (cc e)

pub returns-clause-text : goal.returns-clause-text
returns-clause-text c =
    let columns = c.args.schema.now.columns.items in
    let query = c.args.query.now in
    gives_rows (λ rows. csv_text (meaning (names_of columns) query rows)) c.in_ok-answer.answer c.read_rows.new.consumer (rows_of columns c.args.csv.now) c.into_text.result
    c.in_ok-read_rows.ensures.handed
    (λ rows led. IfOk-weaker c.into_text.result _ _ (λ text whole. whole (names_of columns) query rows (led.taken (names_of columns) query [] c.in_ok-answer.ensures.covers)) c.into_text.ensures.text)
    c.into_text.ensures.only_oom
