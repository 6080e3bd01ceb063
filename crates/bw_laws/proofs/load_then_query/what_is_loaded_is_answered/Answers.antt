-- Over the bytes of a load there is one table.
use Rattle.std.proofs.Common.{ap, sym}
use Rattle.bw_file.specs.TableReading.{Found}
use Rattle.bw_file.proofs.SpelledFile.{of_one_table}
use Rattle.bw_sql.specs.QueryShape.{query_shape}
use Rattle.bw_sql.proofs.SameNames.{columns_too, spells_too}
use Rattle.bw_query.specs.TableAnswer.{IsEveryRow}
use Rattle.bw_laws.proofs.LoadThenQueryLemmas.{answers, loaded, loaded_text}
use Rattle.bw_laws.proofs.load_then_query.what_is_loaded_is_answered.Goals as goal

pub returns-clause-answered : goal.returns-clause-answered
returns-clause-answered c = λ layout csv bytes sql program old new made file.
    let schema = c.args.schema.now in
    let of = loaded layout schema csv bytes made in
    let text = loaded_text layout schema csv bytes c.has_names_and_bounds.ensures.schema of in
    let same = of_one_table bytes layout file.layout schema file.schema of.rows file.rows text file.file in
    let shape = sym (ap (λ (found : Found). found.schema) same) in
    let spelled = spells_too file.schema schema sql (query_shape file.query) shape file.asked.0 in
    answers _ layout file.layout schema file.schema csv bytes old new file.query of file.rows same (columns_too file.schema schema shape) spelled file.text

pub returns-clause-dumped : goal.returns-clause-dumped
returns-clause-dumped c = λ layout csv bytes old new made file.
    let schema = c.args.schema.now in
    let of = loaded layout schema csv bytes made in
    let text = loaded_text layout schema csv bytes c.has_names_and_bounds.ensures.schema of in
    let same = of_one_table bytes layout file.layout schema file.schema of.rows file.rows text file.file in
    let columns = columns_too file.schema schema (sym (ap (λ (found : Found). found.schema) same)) in
    let every : IsEveryRow schema file.query = record { columns = rw columns at file.asked.columns; rows = file.asked.rows } in
    answers _ layout file.layout schema file.schema csv bytes old new file.query of file.rows same columns every file.text
