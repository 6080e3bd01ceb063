-- The writer adds the field as it is.
use Rattle.bw_answer.proofs.PlainFields.{field_added}
use Rattle.bw_answer.proofs.csv_text.write_field.Goals as goal

pub returns-in-Ok-clause-field : goal.returns-in-Ok-clause-field
returns-in-Ok-clause-field c = λ ended fields held.
    let e = c.in-Ok.ensures in
    field_added _ _ ended fields c.args.field.now c.requires e.text e.same e.count e.wrote e.stays held
