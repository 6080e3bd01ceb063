use Rattle.std.proofs.Common.{◌≡◌, ◌==◌, cond}
use Rattle.bw_lanes.proofs.WordLemmas.{written}
use Rattle.bw_lanes.proofs.selected.keep_in.Given as goal

-- the rows so far are kept by their bytes
abbrev pub invariant-loop-word : goal.invariant-loop-word
invariant-loop-word l = l.rows ≡ written (λ row byte. cond (byte == l.c) row 0) l.word l.fn.rows l.bytes
