-- It is cut in one way, and its tokens spell one query.
use Rattle.bw_sql.proofs.Texts.{text_query}
use Rattle.bw_sql.proofs.one_query_of_a_text.Goals as goal

pub returns : goal.returns
returns c = text_query
