use Rattle.std.proofs.Common.{refl}
use Rattle.bw_file.proofs.BodyLemmas.{block_stops, block_validated}
use Rattle.bw_file.proofs.body.read_block.Goals as goal
use Rattle.bw_model.proofs.ErrLemmas.{err_passed_on}

pub returns-in_err-take-clause-reads : goal.returns-in_err-take-clause-reads
returns-in_err-take-clause-reads g c =
    rw (err_passed_on _ c.from_residual.ensures.1) (block_stops c.args.layout c.args.placement.now.schema.columns.items c.args.rows c.args.col _ _ _ (rw c.block_size-size.ensures.size at c.in_err-take.ensures.reads))

pub returns-clause-reads : goal.returns-clause-reads
returns-clause-reads g c =
    let layout = c.args.layout in
    let columns = c.args.placement.now.schema.columns.items in
    block_validated layout columns c.args.rows c.args.col _ _ _ _ c.validate_block.result (rw c.block_size-size.ensures.size at c.in_ok-take.ensures.reads) refl
    (rw (c.as_slice.ensures, c.block_size-size.ensures.size) at c.validate_block.ensures.valid)
