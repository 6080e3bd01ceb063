use Rattle.std.proofs.Common.{◌+◌, arith, take}
use Rattle.bw_file.specs.Reading.{state_at, HasConsumed}
use Rattle.bw_file.proofs.BodyLemmas.{end_refused}
use Rattle.bw_file.proofs.ReadingLemmas.{front_bytes}
use Rattle.bw_file.proofs.body.read_end.Goals as goal

pub returns-in-Ok-clause-refused : goal.returns-in-Ok-clause-refused
returns-in-Ok-clause-refused g c =
    let took : HasConsumed (state_at (g.S.Source.state c.args.source.now) c.args.offset.now)
    (state_at (g.S.Source.state c.read.new.self) (c.args.offset.now + c.in-Ok.n))
    (take c.in-Ok.n c.read.new.buffer) = record { consumed = c.in-Ok.ensures.bytes.0; advanced = omega (arith, c.in-Ok.ensures.bound); each = front_bytes _ c.read.new.buffer c.are_bytes.ensures } in
    rw c.at_byte.ensures (end_refused _ _ (take c.in-Ok.n c.read.new.buffer) took c.in-Ok.ensures.count (omega (arith, c.in-Ok.ensures.bound, c.in-Ok.n-test.1)))
