-- What is still to be read is what it was, but for the record.
use Rattle.std.proofs.Common.{◌≡◌, ◌∙◌, ◌∷◌, List, ℕ, Ok, ap, sym}
use Rattle.bw_model.specs.Row.{values_of}
use Rattle.bw_csv.specs.Rows.{row_of_record}
use Rattle.bw_csv.proofs.RestLemmas.{found_still, plain-readable, plain-to_come, reader-open}
use Rattle.bw_csv.proofs.RestLemmas.{reader-to_come, readable_still}
use Rattle.bw_csv.proofs.RowLemmas.{row_admitted, row_within}
use Rattle.bw_csv.proofs.rest.Rest.next_row.Goals as goal

pub returns-in-Some-clause-nonempty : goal.returns-in-Some-clause-nonempty
returns-in-Some-clause-nonempty c = λ _.
    let r = c.in-Some.ensures.row in
    (r.fields, plain-to_come _ c.if-self.true ∙ r.first ∙ ap (λ (more : List (List (List ℕ))). r.fields ∷ more) (sym (plain-to_come _ c.if-self.true)), r.row)

pub returns-in-Some-clause-readable : goal.returns-in-Some-clause-readable
returns-in-Some-clause-readable c = λ _.
    let r = c.in-Some.ensures.row in
    (plain-readable _ c.if-self.true c.in-Some.ensures.end, row_within _ _ r.fields _ r.row, row_admitted _ _ r.fields _ r.row)

pub read_row-requires : goal.read_row-requires
read_row-requires c = reader-open _ c.turn_to_reader.ensures.reader c.turn_to_reader.ensures.readable

pub returns : goal.returns
returns c =
    let turned = c.turn_to_reader.ensures in
    let read = c.read_row.ensures in
    let old = sym turned.to_come ∙ reader-to_come _ turned.reader in
    record {
      nonempty = rw old (found_still (λ fields. row_of_record c.args.number c.args.rules.now fields ≡ Ok (values_of c.read_row.new.row)) c.read_row.result _ _ turned.reader read.nonempty);
      readable = readable_still _ _ c.read_row.result _ turned.reader read.open;
      none = rw old read.none;
      row = rw old read.row;
      fault = read.fault;
      place = read.place;
    }
