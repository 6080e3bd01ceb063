use Rattle.std.proofs.Common.{◌≡◌, ◌++◌, map, drop}
use Rattle.bw_model.specs.SchemaText.{column_shape}
use Rattle.bw_csv_calls.specs.PrintedSchema.{columns_text, table_line}
use Rattle.bw_text.specs.Printing.{line_text}
use Rattle.bw_csv_calls.proofs.print.print_schema.Given as goal

-- what is written so far, and then the columns that are left, are the whole text
abbrev pub invariant-loop-column : goal.invariant-loop-column
invariant-loop-column l =
    l.text.items ++ columns_text (map column_shape (drop l.column-index l.schema.columns.items))
    ≡ line_text (table_line l.schema.name) ++ columns_text (map column_shape l.schema.columns.items)
