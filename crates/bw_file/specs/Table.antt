-- A table in memory, as it was found in a file.
use Rattle.std.specs.Prelude.{map}
use Rattle.bw_model.specs.Row.{values_of}
use Rattle.bw_model.specs.SchemaText.{schema_shape}
use Rattle.bw_file.specs.declared.table.Table.{Table}
use Rattle.bw_file.specs.TableReading.{Found, found_as}

abbrev pub found_of : Table → Found
found_of table =
    found_as table.layout (schema_shape table.schema) (map values_of table.rows.items)
