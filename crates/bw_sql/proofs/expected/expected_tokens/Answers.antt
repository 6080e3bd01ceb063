use Rattle.std.proofs.Common.{◌≡◌, List, filter, subst, sym}
use Rattle.std.proofs.lemmas.Result.{IfOk-weaker}
use Rattle.bw_sql.specs.declared.expected.Expected.{Expected}
use Rattle.bw_sql.specs.declared.expected.TheConstants.{EXPECTED}
use Rattle.bw_sql.specs.Cut.{spots}
use Rattle.bw_sql.specs.Expected.{is_expected}
use Rattle.bw_sql.specs.Token.{Lexeme}
use Rattle.bw_sql.proofs.Texts.{tokens_are}
use Rattle.bw_sql.proofs.expected.expected_tokens.Goals as goal

-- the tokens are those of the cut
pub returns-clause-listed : goal.returns-clause-listed
returns-clause-listed c =
    let items = c.in_ok-lexed.lexed.tokens.items in
    IfOk-weaker c.list_expected.result _ _ (λ found listed. (
      spots items,
      c.in_ok-lexed.lexed.stopped,
      c.in_ok-lexed.ensures,
      subst (λ (tokens : List Lexeme). found.items ≡ filter (is_expected c.args.schema.now tokens) EXPECTED) (sym (tokens_are items)) listed,
    )) c.list_expected.ensures.listed
