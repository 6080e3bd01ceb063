-- The result reserves memory, and is over no rows still.
use Rattle.std.proofs.Common.{◌∙◌, []}
use Rattle.bw_model.specs.Column.{names_of}
use Rattle.bw_query.proofs.table_text.empty_answer.Goals as goal

pub returns-clause-over : goal.returns-clause-over
returns-clause-over c = c.in_ok-reserve.ensures.covers (names_of c.args.schema.now.columns.items) c.args.query.now [] c.in_ok-answer.ensures.covers

pub returns-clause-width : goal.returns-clause-width
returns-clause-width c = c.in_ok-reserve.ensures.width ∙ c.in_ok-answer.ensures.width ∙ c.args.schema.now.columns.ok.0
