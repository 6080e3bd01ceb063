-- The text that is followed has the records that the reader has still to read.
use Rattle.std.proofs.Common.{◌∙◌, sym}
use Rattle.bw_csv.specs.Records.{IsOpen, remaining_records}
use Rattle.bw_csv.proofs.CutLemmas.{longer_if_some}
use Rattle.bw_csv.proofs.records.Records.is_longer.Goals as goal

pub returns-then-self : goal.returns-then-self
unfolding IsOpen remaining_records
returns-then-self c = λ found.
    rw (← c.requires.1 c.if-self.true) (longer_if_some c.args.most c.args.self.now.text.now c.after_fields.result c.after_fields.ensures (sym c.is_some.ensures ∙ found))
