use Rattle.std.proofs.Common.{◌≤◌, ◌+◌, arith, take, length, length-take}
use Rattle.bw_io.proofs.TakenBytes.{took_more}
use Rattle.bw_io.proofs.input.read_limited.Goals as goal

-- the last piece came, and had no room
pub returns-in_err-extend_from_slice-in-Ok-clause-took : goal.returns-in_err-extend_from_slice-in-Ok-clause-took
returns-in_err-extend_from_slice-in-Ok-clause-took g c =
    let size : length c.read.new.buffer ≤ c.min-room.result = omega (arith, simp length-take at c.read.auto.buffer) in
    let count : length (take c.in-Ok.n c.read.new.buffer) ≤ length c.read.new.buffer = simp length-take (omega arith) in
    let room : c.min-room.result + length c.loop-piece.bytes.items ≤ c.args.limit + 1 =
    omega (arith, c.min-room.ensures, c.loop-piece.bytes.ok.0) in
    took_more _ _ _ _ _ _ c.loop-piece.invariant.came c.in-Ok.ensures.bytes.0 (omega arith)
