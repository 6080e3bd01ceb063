-- Each exit, by the contracts of its calls.
use Rattle.std.proofs.Common.{ℕ, [], refl}
use Rattle.bw_file.specs.Reading.{State, state_at}
use Rattle.bw_file.specs.TableReader.{bytes_taken}
use Rattle.bw_csv_calls.proofs.InfoExits.{header_exit, input_verdict, memory_exit, text_exit}
use Rattle.bw_csv_calls.proofs.InfoExits.{refused_memory, refused_table, told_file}
use Rattle.bw_io.specs.Sink.{none_aside}
use Rattle.bw_io.proofs.SinkLemmas.{wrote_text}
use Rattle.bw_csv_calls.proofs.SizeLemmas.{header_taken}
use Rattle.bw_csv_calls.proofs.info_call.info.Goals as goal
use Rattle.bw_model.proofs.ErrLemmas.{err_passed_on}

pub header_text-requires-clause-head : goal.header_text-requires-clause-head
header_text-requires-clause-head g c = header_taken _ _ c.in_ok-reader.reader refl c.in_ok-reader.ensures.stated

pub returns-in_err-reader-clause-info : goal.returns-in_err-reader-clause-info
returns-in_err-reader-clause-info g c =
    rw (err_passed_on _ c.from_residual.ensures.1) (header_exit _ _ _ c.in_err-reader.field-0.0 c.in_err-reader.ensures.head (refused_table _ _ c.in_err-reader.ensures.fault))

pub returns-in_err-reader-clause-accepted : goal.returns-in_err-reader-clause-accepted
returns-in_err-reader-clause-accepted g c =
    let refused = c.in_err-reader.ensures.refused in
    rw (err_passed_on _ c.from_residual.ensures.1) (λ bytes layout schema rows known file.
    input_verdict c.in_err-reader.field-0.0 (c.a_file_is_read_whole.ensures.faults bytes layout schema rows file _ _ _ _ known refused.1))

pub returns-in_err-text-clause-info : goal.returns-in_err-text-clause-info
returns-in_err-text-clause-info g c =
    let reader = c.in_ok-reader.reader in
    let now : ℕ → State = λ offset. state_at (g.S.Source.state c.begin.new.source) offset in
    rw (err_passed_on _ c.from_residual-in_err-text.ensures.1) (memory_exit _ now (bytes_taken reader) _ c.in_err-text.field-0.0 reader c.in_ok-reader.ensures.stated c.in_err-text.ensures.only_oom (refused_memory _ _ c.in_err-text.ensures.only_oom))

pub returns-clause-info : goal.returns-clause-info
returns-clause-info g c =
    let reader = c.in_ok-reader.reader in
    let now : ℕ → State = λ offset. state_at (g.S.Source.state c.begin.new.source) offset in
    let goes = rw c.deref.ensures.value at c.write_whole.ensures in
    text_exit _ now (bytes_taken reader) _ reader c.in_ok-text.text.items c.in_ok-reader.ensures.stated c.in_ok-text.ensures.text c.in_ok-text.ensures.spelled (wrote_text (Unit {0}) none_aside _ _ _ _ c.write_whole.result refl goes)

pub returns-clause-file : goal.returns-clause-file
returns-clause-file g c = λ bytes layout schema rows known file.
    let reader = c.in_ok-reader.reader in
    let gave = c.a_file_is_read_whole.ensures.groups bytes layout schema rows file _ _ reader [] known c.in_ok-reader.ensures.began in
    let goes = rw c.deref.ensures.value at c.write_whole.ensures in
    told_file reader bytes layout schema rows c.in_ok-text.text.items file gave c.in_ok-text.ensures.text _ _ c.write_whole.result goes
