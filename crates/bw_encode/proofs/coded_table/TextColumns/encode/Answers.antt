-- Coded columns have the rows of the text's.
use Rattle.std.proofs.Common.{◌≡◌, ◌∙◌, ◌<◌, ap, length, map, arith, []}
use Rattle.bw_encode.specs.Coded.{fields_in}
use Rattle.bw_encode.specs.CodedTable.{HasRows}
use Rattle.bw_encode.proofs.CodedTableLemmas.{are_encodings, coded_width, column_size, tall_coded}
use Rattle.bw_encode.proofs.TableLemmas.{any_default}
use Rattle.bw_encode.proofs.coded_table.TextColumns.encode.Goals as goal

pub returns-clause-coded : goal.returns-clause-coded
returns-clause-coded c =
    let table = c.requires.0 in
    let has : HasRows c.args.self.now c.requires.0 = c.requires.1 in
    let same : map fields_in c.in_ok-columns.columns.items ≡ c.args.self.now.columns.items = c.in_ok-columns.ensures.fields ∙ c.deref.ensures.value in
    let some : 0 < length c.args.self.now.columns.items = let count = has.columns_are.count in let one = has.nonempty in omega arith in
    let rows : c.len-rows.result ≡ length c.requires.0.rows =
    c.len-rows.ensures ∙ ap length (c.index.ensures ∙ any_default c.args.self.now.columns.items 0 _ [] some) ∙ column_size c.args.self.now c.requires.0 has 0 has.nonempty in
    let width = coded_width c.args.self.now c.requires.0 has c.in_ok-columns.columns.items same in
    let one = has.nonempty in
    let most = has.within in
    let few = has.rows_within in
    record {
      coded = c.in_ok-columns.ensures.coded;
      tall = tall_coded c.args.self.now c.requires.0 has c.in_ok-columns.columns.items same c.len-rows.result rows;
      nonempty = omega arith;
      within = omega arith;
      rows_within = omega arith;
    }

pub returns-clause-encodings : goal.returns-clause-encodings
returns-clause-encodings c = λ table has.
    are_encodings c.args.self.now table has c.in_ok-columns.columns.items (c.in_ok-columns.ensures.fields ∙ c.deref.ensures.value) c.in_ok-columns.ensures.coded
