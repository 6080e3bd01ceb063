-- The sample is read, or the tokens are.
use Rattle.std.proofs.Common.{◌↔◌, ◌++◌, ◌∷◌, [], Option, IsTrue, subst, sym}
use Rattle.bw_sql.specs.Demand.{is_met}
use Rattle.bw_sql.specs.Expected.{goes_on_with}
use Rattle.bw_sql.specs.Frontier.{Viable}
use Rattle.bw_sql.specs.Token.{Lexeme}
use Rattle.bw_sql.proofs.Expectations.{begun_read, ended_spelled, goes_on, spelled_ended}
use Rattle.bw_sql.proofs.expected.what_is_expected_goes_on.Goals as goal

pub returns-clause-goes_on : goal.returns-clause-goes_on
returns-clause-goes_on c = λ schema tokens expected t is.
    let with = tokens ++ t ∷ [] in
    subst (λ (s : Option Lexeme). IsTrue (goes_on_with schema tokens s) ↔ Viable schema (is_met schema) with) (sym is)
    (goes_on schema with, begun_read schema with)

pub returns-clause-ends : goal.returns-clause-ends
returns-clause-ends c = λ schema tokens. (ended_spelled schema tokens, spelled_ended schema tokens)
