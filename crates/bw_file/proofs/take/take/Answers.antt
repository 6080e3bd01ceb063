use Rattle.std.proofs.Common.{◌≡◌, ◌+◌, ◌++◌, ◌∙◌, take, arith, length-take, length-append}
use Rattle.std.proofs.KnownBytes.{Consumes-kept}
use Rattle.std.proofs.lemmas.List.{length-take-le, take_all}
use Rattle.bw_file.specs.Reading.{state_at, HasConsumed}
use Rattle.bw_file.proofs.ReadingLemmas.{front_bytes, took_more, took_into, field_taken}
use Rattle.bw_file.proofs.ReadingLemmas.{field_ended, field_failed}
use Rattle.bw_file.proofs.take.take.Goals as goal

-- a read of nothing is the end
pub returns-in-Ok-eq0-clause-reads : goal.returns-in-Ok-eq0-clause-reads
returns-in-Ok-eq0-clause-reads g c =
    let more : HasConsumed
    (state_at (g.S.Source.state c.loop-filled.source) c.loop-filled.offset)
    (state_at (g.S.Source.state c.read.new.self) c.loop-filled.offset)
    (take c.in-Ok-eq0.field-0 c.read.new.buffer) = record { consumed = c.in-Ok-eq0.ensures.bytes.0; advanced = omega (arith, c.in-Ok-eq0.ensures.bound); each = front_bytes _ c.read.new.buffer c.are_bytes.ensures } in
    rw c.at_byte.ensures (field_ended _ _ _ _ _ (take c.loop-filled.filled c.loop-filled.buffer ++ take c.in-Ok-eq0.field-0 c.read.new.buffer)
    (took_more _ _ _ _ _ c.loop-filled.invariant.came more)
    (c.in-Ok-eq0.ensures.count ∙ c.loop-filled.invariant.count)
    (simp (length-append, length-take) (omega arith))
    (c.in-Ok-eq0.ensures.bytes.1 c.in-Ok-eq0.field-0-test (omega (arith, c.read.auto.buffer))))

pub loop-filled-preserved : goal.loop-filled-preserved
loop-filled-preserved g c =
    let came : HasConsumed
    (state_at (g.S.Source.state c.loop-filled.source) c.loop-filled.offset)
    (state_at (g.S.Source.state c.read.new.self) (c.loop-filled.offset + c.in-Ok.n))
    (take c.in-Ok.n c.read.new.buffer) = record { consumed = c.in-Ok.ensures.bytes.0; advanced = omega (arith, c.in-Ok.ensures.bound); each = front_bytes _ c.read.new.buffer c.are_bytes-in-Ok.ensures } in
    record {
      within = omega (arith, c.in-Ok.ensures.bound, c.read.auto.buffer);
      came = took_into _ _ _ c.loop-filled.filled c.in-Ok.n c.loop-filled.buffer c.read.new.buffer (omega arith) (omega (arith, c.in-Ok.ensures.bound)) c.loop-filled.invariant.came came;
      count = c.in-Ok.ensures.count ∙ c.loop-filled.invariant.count;
    }

pub returns-clause-reads : goal.returns-clause-reads
returns-clause-reads g c =
    let whole : take c.loop-filled.filled c.loop-filled.buffer ≡ c.loop-filled.buffer = take_all _ _ (omega arith) in
    field_taken _ _ _ c.loop-filled.buffer (rw whole at c.loop-filled.invariant.came) c.loop-filled.invariant.count (omega arith)

-- a failed read takes nothing
pub returns-in-Err-clause-reads : goal.returns-in-Err-clause-reads
returns-in-Err-clause-reads g c =
    let came = c.loop-filled.invariant.came in
    let kept : HasConsumed (state_at (g.S.Source.state c.args.source.now) c.args.offset.now)
    (state_at (g.S.Source.state c.read.new.self) c.loop-filled.offset)
    (take c.loop-filled.filled c.loop-filled.buffer) = record { consumed = Consumes-kept _ _ _ _ came.consumed c.in-Err.ensures.bytes; advanced = came.advanced; each = came.each } in
    rw c.new.ensures (field_failed _ _ _ (take c.loop-filled.filled c.loop-filled.buffer) kept (omega (arith, c.in-Err.ensures.count, c.loop-filled.invariant.count)) (omega (arith, length-take-le c.loop-filled.filled c.loop-filled.buffer (omega arith))))
