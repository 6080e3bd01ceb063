-- What is read of bytes in memory.
use Rattle.std.proofs.Common.{subst}
use Rattle.bw_io.specs.Source.{SourceState}
use Rattle.bw_model.proofs.ErrLemmas.{err_passed_on}
use Rattle.bw_file.specs.Header.{header_shape}
use Rattle.bw_file.specs.Memory.{memory_state}
use Rattle.bw_file.specs.Reading.{Fails, GoesOn, give, state_at}
use Rattle.bw_file.specs.TableReading.{header_in}
use Rattle.bw_file.proofs.FaultLemmas.{header_own, refused_by}
use Rattle.bw_file.proofs.HeaderInMemory.{parsed_in, refused_in}
use Rattle.bw_file.proofs.TableLemmas.{no_read_failed}
use Rattle.bw_file.proofs.header.parse_header.Goals as goal

pub returns-clause-parsed : goal.returns-clause-parsed
returns-clause-parsed c =
    parsed_in (header_in c.args.order) c.args.bytes.now _ c.read_header.new.offset (header_shape c.in_ok-header.header)
    (subst (λ (s : SourceState). GoesOn (header_in c.args.order) (state_at s 0) (give (header_shape c.in_ok-header.header)) (state_at (memory_state c.read_header.new.source) c.read_header.new.offset)) c.new-source.ensures
    c.in_ok-header.ensures.reads)

pub returns-in_err-header-clause-refused : goal.returns-in_err-header-clause-refused
returns-in_err-header-clause-refused c =
    rw (err_passed_on _ c.from_residual.ensures.1) (refused_in (header_in c.args.order) c.args.bytes.now _ c.read_header.new.offset c.in_err-header.field-0.0
    (subst (λ (s : SourceState). Fails (header_in c.args.order) (state_at s 0) (state_at (memory_state c.read_header.new.source) c.read_header.new.offset) c.in_err-header.field-0.0) c.new-source.ensures
    c.in_err-header.ensures.reads))

pub returns-in_err-header-clause-fault : goal.returns-in_err-header-clause-fault
returns-in_err-header-clause-fault c =
    rw (err_passed_on _ c.from_residual.ensures.1) (refused_by (header_in c.args.order) _ _ _ (header_own c.args.order) c.in_err-header.ensures.reads)

pub returns-in_err-header-clause-unread : goal.returns-in_err-header-clause-unread
returns-in_err-header-clause-unread c =
    rw (err_passed_on _ c.from_residual.ensures.1) (no_read_failed _
    (subst (λ (s : SourceState). Fails (header_in c.args.order) (state_at s 0) (state_at (memory_state c.read_header.new.source) c.read_header.new.offset) c.in_err-header.field-0.0) c.new-source.ensures
    c.in_err-header.ensures.reads).failures)
