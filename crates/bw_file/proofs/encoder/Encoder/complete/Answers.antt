use Rattle.std.proofs.Common.{sym, ◌∙◌, arith}
use Rattle.bw_file.proofs.EncoderLemmas.{bytes_finished, bytes_held_by}
use Rattle.bw_file.proofs.encoder.Encoder.complete.Goals as goal
use Rattle.bw_file.proofs.encoder.Encoder.complete.Goals.{then-self-gt0+in_ok-flush, else-self-gt0}

pub returns-clause-bytes : goal.returns-clause-bytes
returns-clause-bytes c = λ rows holds. elim c.if-self-gt0.branch [
  | then-self-gt0+in_ok-flush w ↦
      bytes_finished c.args.self.now rows _ _ _ (rw w.self-is (w.in_ok-flush.ensures.bytes rows holds)) (rw w.self-is (w.in_ok-flush.ensures.rows ∙ sym holds.count)) c.set_row_count.ensures
  | else-self-gt0 w ↦
      bytes_finished c.args.self.now rows _ _ _ (rw w.self-is (bytes_held_by c.args.self.now rows (omega (arith, w.if-self-gt0.false)) holds)) (rw w.self-is (sym holds.count)) c.set_row_count.ensures
]
