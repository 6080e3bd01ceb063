use Rattle.std.proofs.lemmas.List.{length-replicate}
use Rattle.bw_file.proofs.ReadingLemmas.{read_field_stops, read_field_done}
use Rattle.bw_file.proofs.header.read_field.Goals as goal
use Rattle.bw_model.proofs.ErrLemmas.{err_passed_on}

pub returns-in_err-take-clause-reads : goal.returns-in_err-take-clause-reads
returns-in_err-take-clause-reads g c =
    rw (err_passed_on _ c.from_residual.ensures.1) (read_field_stops g.row.N (g.F.Field.value_of c.args.field.now) _ _ _ (rw length-replicate at c.in_err-take.ensures.reads))

pub returns-clause-reads : goal.returns-clause-reads
returns-clause-reads g c =
    rw (c.at_offset.ensures, c.parse.ensures.value) (read_field_done g.row.N (g.F.Field.value_of c.args.field.now) c.take.new.buffer _ _ (rw length-replicate at c.in_ok-take.ensures.reads))
