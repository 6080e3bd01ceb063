-- The text is followed past the record that the reader read.
use Rattle.std.proofs.Common.{◌∙◌}
use Rattle.bw_csv.specs.Records.{IsOpen}
use Rattle.bw_csv.proofs.records.Records.next.Goals as goal

pub read_fields-requires : goal.read_fields-requires
unfolding IsOpen
read_fields-requires c = c.requires.0

pub returns-clause-open : goal.returns-clause-open
unfolding IsOpen
returns-clause-open c = λ _.
    let read = c.in_ok-read_fields.ensures in (
      read.open c.if-not-branch.false,
      λ on.
          let is = c.goes_on-self.ensures on in
          c.text_after_record-self.ensures is _ _ (c.requires.1 is ∙ read.nonempty c.if-not-branch.false),
    )
