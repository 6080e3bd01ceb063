use Rattle.std.proofs.Common.{◌∙◌, ap, sym, arith}
use Rattle.bw_csv.specs.Records.{fields_in}
use Rattle.bw_csv.specs.Rows.{without_blanks}
use Rattle.bw_csv.proofs.FieldLemmas.{field_found, field_missed}
use Rattle.bw_csv.proofs.records.Records.field.Goals as goal

pub returns-in-Some : goal.returns-in-Some
returns-in-Some c = c.without_blanks.ensures ∙ ap without_blanks (sym (field_found (fields_in c.args.self.now) c.args.i c.in-Some.field.now (sym c.in-Some.ensures.value)).1)

pub returns-in-None : goal.returns-in-None
returns-in-None c = absurd (omega (arith, c.requires, field_missed (fields_in c.args.self.now) c.args.i (sym c.in-None.ensures.value)))
