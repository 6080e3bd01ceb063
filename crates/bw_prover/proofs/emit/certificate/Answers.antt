use Rattle.bw_prover.proofs.ColumnLemmas.{certificate_named}
use Rattle.bw_prover.proofs.emit.certificate.Goals as goal

pub returns-clause-columns : goal.returns-clause-columns
returns-clause-columns c = certificate_named c.args.schema.now.columns.items c.new.result (rw c.new.ensures c.in_ok-chains.ensures)
