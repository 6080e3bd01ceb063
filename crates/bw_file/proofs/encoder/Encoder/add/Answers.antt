use Rattle.std.proofs.lemmas.Result.{err_from_is_err_and}
use Rattle.bw_file.proofs.EncoderLemmas.{held_as_before}
use Rattle.bw_file.proofs.encoder.Encoder.add.Goals as goal
use Rattle.bw_file.proofs.encoder.Encoder.add.Goals.{then-self-eq-LANES+in_ok-flush}
use Rattle.bw_file.proofs.encoder.Encoder.add.Goals.{else-self-eq-LANES}

pub returns-clause-holds : goal.returns-clause-holds
returns-clause-holds c = λ rows holds. elim c.if-self-eq-LANES.branch [
  | then-self-eq-LANES+in_ok-flush w ↦ c.keep.ensures.holds rows (rw w.self-is (w.in_ok-flush.ensures.holds rows holds w.if-self-eq-LANES.true))
  | else-self-eq-LANES w ↦ c.keep.ensures.holds rows (rw w.self-is holds)
]

pub returns-in_err-flush-clause-refused : goal.returns-in_err-flush-clause-refused
returns-in_err-flush-clause-refused c =
    let p = err_from_is_err_and c.from_residual.result c.from_residual.ensures.1 in
    let same = c.in_err-flush.ensures.refused in
    rw p.1 (same.rows, λ rows holds. held_as_before c.args.self.now c.flush.new.self rows same holds)
