use Rattle.std.proofs.Common.{◌≡◌, refl, ap, ◌∙◌, ◌+◌, false, inl, arith, IsTrue}
use Rattle.bw_io.specs.Sink.{is_write_fault}
use Rattle.bw_io.specs.Source.{failed_reads, is_input_fault}
use Rattle.bw_session.proofs.LossLemmas.{lost_since, tells_next}
use Rattle.bw_session.proofs.SessionLemmas.{begins, ends, goes_on, input_alone, no_reads, no_writes}
use Rattle.bw_session.proofs.SessionLemmas.{one_write, stops, stops_reading, stops_writing}
use Rattle.bw_session.proofs.SessionLemmas.{stored_length, waits}
use Rattle.bw_session.proofs.session.answer_statements.Goals as goal

pub loop-init : goal.loop-init
loop-init g c = record { so_far = begins _ _ _; reads = refl; writes = refl; serves = c.requires.serves; files = refl; source = refl; schema = refl; tells = tt; lost = λ is. inl is; count = omega arith }

pub answer_one-requires-clause-stored : goal.answer_one-requires-clause-stored
answer_one-requires-clause-stored g c =
    rw c.deref.ensures.value (stored_length _ _ _ _ c.in-Ok.ensures.statement)

pub returns-in-Err-clause-answers : goal.returns-in-Err-clause-answers
returns-in-Err-clause-answers g c =
    let other : is_write_fault c.in-Err.fault ≡ false = input_alone c.in-Err.fault c.in-Err.ensures.fault in
    let so_far = waits _ _ _ _ _ _ _ _ c.loop.invariant.so_far c.wait_if_unread.ensures in (
      stops_reading _ _ _ _ _ _ _ c.in-Err.fault so_far c.in-Err.ensures.fault c.in-Err.ensures.begun,
      c.in-Err.ensures.failed ∙ ap (λ n. n + failed_reads c.in-Err.fault) c.loop.invariant.reads,
      no_writes c.in-Err.fault _ _ other c.loop.invariant.writes,
    )

pub returns-in-Err-answer_one-clause-answers : goal.returns-in-Err-answer_one-clause-answers
returns-in-Err-answer_one-clause-answers g c =
    let failed = rw (c.loop.invariant.files, c.loop.invariant.schema, c.loop.invariant.source) at c.in-Err-answer_one.ensures.answers in
    let so_far = waits _ _ _ _ _ _ _ _ c.loop.invariant.so_far c.wait_if_unread.ensures in (
      stops_writing _ _ _ _ _ _ _ _ _ _ _ c.in-Err-answer_one.fault so_far c.in-Ok.ensures.statement
          failed.1 c.deref.ensures.value failed.0,
      no_reads c.in-Err-answer_one.fault _ _ failed.0 (omega (arith, c.in-Ok.ensures.failed, c.loop.invariant.reads)),
      one_write c.in-Err-answer_one.fault _ _ failed.0 (omega (arith, failed.2, c.loop.invariant.writes)),
    )

pub returns-then-not-more-clause-answers : goal.returns-then-not-more-clause-answers
returns-then-not-more-clause-answers g c =
    let wrote = rw (c.loop.invariant.files, c.loop.invariant.schema, c.loop.invariant.source) at c.in-Ok-answer_one.ensures.answers in
    let so_far = waits _ _ _ _ _ _ _ _ c.loop.invariant.so_far c.wait_if_unread.ensures in (
      rw c.first_of-first.ensures (ends _ _ _ _ _ _ _ _ _ _ so_far (rw c.if-not-more.true at c.in-Ok.ensures.statement)
          (rw c.deref.ensures.value at wrote.0)),
      omega (arith, c.in-Ok.ensures.failed, c.loop.invariant.reads),
      omega (arith, wrote.1, c.loop.invariant.writes),
    )

pub returns-then-not-more-clause-lost : goal.returns-then-not-more-clause-lost
returns-then-not-more-clause-lost g c =
    rw c.first_of-first.ensures (tells_next (g.C.ColumnStore.is_lost c.args.store.now) (g.C.ColumnStore.failures c.args.store.now) (g.C.ColumnStore.failures c.loop.store) (g.C.ColumnStore.failures c.answer_one.new.store)
    c.in-Ok-answer_one.ensures.count (g.C.ColumnStore.is_lost c.loop.store) (g.C.ColumnStore.is_lost c.answer_one.new.store) c.loop.first c.in-Ok-answer_one.fault c.loop.invariant.count c.loop.invariant.lost
    c.in-Ok-answer_one.ensures.failed c.in-Ok-answer_one.ensures.lost c.loop.invariant.tells)

pub loop-preserved : goal.loop-preserved
loop-preserved g c =
    let wrote = rw (c.loop.invariant.files, c.loop.invariant.schema, c.loop.invariant.source) at c.in-Ok-answer_one.ensures.answers in
    let so_far = waits _ _ _ _ _ _ _ _ c.loop.invariant.so_far c.wait_if_unread.ensures in
    record {
      so_far = rw c.first_of-first.ensures (goes_on _ _ _ _ _ _ _ _ _ _ so_far
          (rw c.if-not-more.false at c.in-Ok.ensures.statement) (rw c.deref.ensures.value at wrote.0));
      reads = omega (arith, c.in-Ok.ensures.failed, c.loop.invariant.reads);
      writes = omega (arith, wrote.1, c.loop.invariant.writes);
      serves = c.in-Ok-answer_one.ensures.serves;
      files = c.in-Ok-answer_one.ensures.files ∙ c.loop.invariant.files;
      source = c.in-Ok-answer_one.ensures.source ∙ c.loop.invariant.source;
      schema = c.in-Ok-answer_one.ensures.schema ∙ c.loop.invariant.schema;
      tells = rw c.first_of-first.ensures (tells_next (g.C.ColumnStore.is_lost c.args.store.now) (g.C.ColumnStore.failures c.args.store.now) (g.C.ColumnStore.failures c.loop.store) (g.C.ColumnStore.failures c.answer_one.new.store)
          c.in-Ok-answer_one.ensures.count (g.C.ColumnStore.is_lost c.loop.store) (g.C.ColumnStore.is_lost c.answer_one.new.store) c.loop.first c.in-Ok-answer_one.fault c.loop.invariant.count c.loop.invariant.lost
          c.in-Ok-answer_one.ensures.failed c.in-Ok-answer_one.ensures.lost c.loop.invariant.tells);
      lost = lost_since (g.C.ColumnStore.is_lost c.args.store.now) (g.C.ColumnStore.failures c.args.store.now) (g.C.ColumnStore.failures c.loop.store) (g.C.ColumnStore.failures c.answer_one.new.store)
          c.in-Ok-answer_one.ensures.count (g.C.ColumnStore.is_lost c.loop.store) (g.C.ColumnStore.is_lost c.answer_one.new.store) c.loop.invariant.count c.loop.invariant.lost c.in-Ok-answer_one.ensures.failed;
      count = omega (arith, c.in-Ok-answer_one.ensures.count, c.loop.invariant.count);
    }

pub returns-clause-answers : goal.returns-clause-answers
returns-clause-answers g c =
    let input : IsTrue (is_input_fault c.new.result) = rw c.new.ensures refl in
    let none : failed_reads c.new.result ≡ 0 = rw c.new.ensures refl in (
      stops _ _ _ _ _ c.loop.first c.new.result c.loop.invariant.so_far input,
      omega (arith, none, c.loop.invariant.reads),
      no_writes c.new.result _ _ (input_alone c.new.result input) c.loop.invariant.writes,
    )
