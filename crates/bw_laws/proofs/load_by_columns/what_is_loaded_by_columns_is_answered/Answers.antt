-- Over the file by columns of a load there is one table.
use Rattle.bw_sql.specs.QueryShape.{query_shape}
use Rattle.bw_sql.proofs.SameNames.{spells_too}
use Rattle.bw_memory.specs.Columnar.{table_in}
use Rattle.bw_memory.specs.MemoryTable.{schema_of}
use Rattle.bw_query.specs.TableAnswer.{IsEveryRow}
use Rattle.bw_laws.proofs.LoadByColumnsLemmas.{AreTheFiles, answered, columns_of, loaded_by_columns, shape_of}
use Rattle.bw_laws.proofs.load_by_columns.what_is_loaded_by_columns_is_answered.Goals as goal

pub returns-clause-answered : goal.returns-clause-answered
returns-clause-answered c = λ layout csv bytes sql text program old new made found took.
    let schema = c.args.schema.now in
    let are : AreTheFiles = record { schema = c.columns_are_those_of_the_file.ensures.schema; rows = c.columns_are_those_of_the_file.ensures.rows } in
    let of = loaded_by_columns layout schema csv bytes c.has_names_and_bounds.ensures.schema made in
    let shape = shape_of are layout schema csv bytes of _ program text found in
    let spelled = spells_too (schema_of (table_in found.columnar)) schema sql (query_shape found.query) shape found.asked.asked.0 in
    answered are layout schema csv bytes of _ program text found _ old new spelled took

pub returns-clause-dumped : goal.returns-clause-dumped
returns-clause-dumped c = λ layout csv bytes text old new made found took.
    let schema = c.args.schema.now in
    let are : AreTheFiles = record { schema = c.columns_are_those_of_the_file.ensures.schema; rows = c.columns_are_those_of_the_file.ensures.rows } in
    let of = loaded_by_columns layout schema csv bytes c.has_names_and_bounds.ensures.schema made in
    let columns = columns_of are layout schema csv bytes of _ _ text found in
    let every : IsEveryRow schema found.query = record { columns = rw columns at found.asked.asked.columns; rows = found.asked.asked.rows } in
    answered are layout schema csv bytes of _ _ text found _ old new every took
