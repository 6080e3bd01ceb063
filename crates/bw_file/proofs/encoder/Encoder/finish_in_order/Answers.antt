use Rattle.bw_file.proofs.encoder.Encoder.finish_in_order.Goals as goal

pub returns-in-ByColumns-clause-bytes : goal.returns-in-ByColumns-clause-bytes
returns-in-ByColumns-clause-bytes c = rw c.in-ByColumns.is c.finish_by_columns.ensures.bytes
