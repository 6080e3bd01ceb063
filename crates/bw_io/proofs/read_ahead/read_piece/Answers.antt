use Rattle.std.proofs.Common.{sym, subst, List, ℕ}
use Rattle.std.specs.Io.{ReadsAtMost}
use Rattle.std.specs.Io.KnownBytes.{ReadConsumes}
use Rattle.bw_io.proofs.PieceBytes.{after_front}
use Rattle.bw_io.proofs.read_ahead.read_piece.Goals as goal

pub returns-clause-bound : goal.returns-clause-bound
returns-clause-bound g c =
    subst (λ (l : List ℕ). ReadsAtMost c.read.result l) (sym (after_front c.args.memory.now c.read.new.buf c.requires)) c.read.ensures.bound

pub returns-clause-bytes : goal.returns-clause-bytes
returns-clause-bytes g c =
    subst (λ (l : List ℕ). ReadConsumes (g.R.Read.remaining c.args.inner.now) (g.R.Read.remaining c.read.new.self) c.read.result l)
    (sym (after_front c.args.memory.now c.read.new.buf c.requires)) c.read.ensures.bytes
