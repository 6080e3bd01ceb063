-- No segment is settled.
use Rattle.bw_query.proofs.StoreLemmas.{text_of_all}
use Rattle.bw_query.proofs.memory_segments.memory_text.Goals as goal

pub returns-clause-text : goal.returns-clause-text
returns-clause-text c = text_of_all c.args.table.now c.args.query.now c.args.scan.now c.open_text.result c.open_text.ensures.text
