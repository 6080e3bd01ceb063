-- The rows of a file by columns are those of a table file too, of which a dump is a backup.
use Rattle.std.proofs.Common.{◌≡◌, ◌∙◌, List, Ok, ap, inl, refl, subst, sym, ℕ}
use Rattle.std.specs.Io.KnownBytes.{Appends}
use Rattle.bw_model.specs.declared.schema.Schema.{Schema}
use Rattle.bw_model.specs.Row.{Value}
use Rattle.bw_file.specs.declared.layout.Layout.{Layout}
use Rattle.bw_file.specs.declared.order.FileOrder.{FileOrder}
use Rattle.bw_file.specs.declared.order.FileOrder.TheVariants.{ByColumns}
use Rattle.bw_file.specs.Columnar.{IsColumnarFile, bytes_in_order}
use Rattle.bw_file.specs.FileBytes.{IsFileBytes, file_bytes}
use Rattle.bw_csv_calls.specs.Load.{file_in}
use Rattle.bw_query.specs.TableAnswer.{IsEveryRow}
use Rattle.bw_laws.specs.Backup.{table_text}
use Rattle.bw_laws.proofs.BackupLemmas.{dump_text, text_spells}
use Rattle.bw_laws.proofs.LoadByColumnsLemmas.{AreTheFiles, LoadedByColumns, columns_of, text_of}
use Rattle.bw_laws.proofs.load_by_columns.what_is_dumped_by_columns_is_loaded.Goals as goal

by_rows : (bytes : List ℕ) (layout : Layout) (schema : Schema) (rows : List (List Value)) → IsColumnarFile bytes layout schema rows → IsFileBytes (file_bytes layout schema rows) layout schema rows
by_rows bytes layout schema rows file = record { under = file.under; admitted = file.admitted; text = inl refl }

loads : (bytes : List ℕ) (layout other : Layout) (schema : Schema) (rows : List (List Value)) (order : FileOrder) → IsColumnarFile bytes layout schema rows
    → file_in order other schema (table_text schema rows) ≡ Ok (bytes_in_order order other schema rows)
loads bytes layout other schema rows order file = rw (text_spells (file_bytes layout schema rows) layout schema rows (by_rows bytes layout schema rows file)) refl

pub returns : goal.returns
returns c = record {
  took = λ bytes layout schema rows text old new file found wrote.
      let are : AreTheFiles = record { schema = c.columns_are_those_of_the_file.ensures.schema; rows = c.columns_are_those_of_the_file.ensures.rows } in
      let whole = by_rows bytes layout schema rows file in
      let of : LoadedByColumns layout schema (table_text schema rows) bytes = record { rows = rows; spelled = text_spells (file_bytes layout schema rows) layout schema rows whole; file = file } in
      let columns = columns_of are layout schema (table_text schema rows) bytes of _ _ text found in
      let every : IsEveryRow schema found.query = record { columns = rw columns at found.asked.asked.columns; rows = found.asked.asked.rows } in
      subst (Appends old new)
      (text_of are layout schema (table_text schema rows) bytes of _ _ text found ∙ dump_text (file_bytes layout schema rows) layout schema rows found.query whole every) wrote;
  loaded = λ bytes layout other schema rows order file. loads bytes layout other schema rows order file;
  same = λ bytes layout schema rows file. loads bytes layout layout schema rows ByColumns file ∙ ap Ok (sym file.text);
}
