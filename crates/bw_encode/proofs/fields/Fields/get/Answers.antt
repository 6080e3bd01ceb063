use Rattle.std.proofs.Common.{◌<◌, sym, ap, arith, length, List, ℕ}
use Rattle.csv.specs.Records.{fields_of}
use Rattle.csv.proofs.RecordFacts.{field-get, field-there}
use Rattle.bw_encode.proofs.fields.Fields.get.Goals as goal

pub returns-in-Some : goal.returns-in-Some
returns-in-Some c = let e = field-get (fields_of c.self.inside.record) c.args.place c.in-Some.field.now (sym c.in-Some.ensures.value) in let v = c.self.view_is in cc

pub returns-in-None : goal.returns-in-None
returns-in-None c =
    let e = ap (λ (fields : List (List ℕ)). length fields) c.self.view_is in
    let lt : c.args.place < length (fields_of c.self.inside.record) = omega (arith, c.requires) in
    absurd (field-there (fields_of c.self.inside.record) c.args.place lt (sym c.in-None.ensures.value))
