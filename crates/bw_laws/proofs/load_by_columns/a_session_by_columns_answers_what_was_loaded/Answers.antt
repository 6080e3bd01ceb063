-- Over the file by columns of a load there is one table.
use Rattle.bw_memory.specs.Columnar.{table_in}
use Rattle.bw_memory.specs.MemoryTable.{schema_of}
use Rattle.bw_laws.proofs.LoadByColumnsLemmas.{loaded_by_columns, stored_meaning}
use Rattle.bw_laws.proofs.load_by_columns.a_session_by_columns_answers_what_was_loaded.Goals as goal

pub returns : goal.returns
returns c = λ layout csv bytes columnar query stored made opened has.
    let schema = c.args.schema.now in
    let of = loaded_by_columns layout schema csv bytes c.has_names_and_bounds.ensures.schema made in
    let found = c.stored_rows_are_those_of_the_file.ensures bytes layout schema of.rows columnar _ stored of.file opened has in
    stored_meaning layout schema csv bytes of (schema_of (table_in columnar)) query stored found.0 found.1
