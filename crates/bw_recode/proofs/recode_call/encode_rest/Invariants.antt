use Rattle.std.proofs.Common.{◌≡◌, ◌-◌, ℕ, List, [], map, None}
use Rattle.bw_model.specs.Groups.{together}
use Rattle.bw_model.specs.Row.{Value}
use Rattle.bw_file.specs.Encoder.{Holds, encoder_layout, encoder_schema, rows_in}
use Rattle.bw_file.specs.Memory.{memory_state}
use Rattle.bw_file.specs.Reading.{state_at}
use Rattle.bw_file.specs.TableReader.{ReadProgress, bytes_taken, final_result, layout_in, rows_given}
use Rattle.bw_file.specs.TableReader.{rows_stated, schema_in}
use Rattle.bw_recode.specs.Recode.{replaced_row, replacements_in, start_of}
use Rattle.bw_recode.proofs.recode_call.encode_rest.Given as goal

-- the groups so far came, and their rows were replaced and added
abbrev pub invariant-loop-encoder : goal.invariant-loop-encoder
invariant-loop-encoder l = record {
  goes_on : final_result l.reader ≡ None;
  groups : List (List (List Value));
  read : (table : List ℕ) → ReadProgress (start_of table) (state_at (memory_state l.initial.source) (bytes_taken l.initial.reader)) l.initial.reader []
      → ReadProgress (start_of table) (state_at (memory_state l.source) (bytes_taken l.reader)) l.reader groups;
  holds : Holds l.encoder (map (replaced_row (schema_in l.reader).columns.items (replacements_in l.replacements)) (together groups));
  rows : rows_in l.encoder ≡ rows_given l.reader;
  layout : encoder_layout l.encoder ≡ layout_in l.reader;
  same_layout : layout_in l.reader ≡ layout_in l.initial.reader;
  same_schema : schema_in l.reader ≡ schema_in l.initial.reader;
  name : (encoder_schema l.encoder).name ≡ l.schema.name;
  columns : (encoder_schema l.encoder).columns.items ≡ l.schema.columns.items;
}

abbrev pub decreases-loop-encoder : goal.decreases-loop-encoder
decreases-loop-encoder l = rows_stated l.reader - rows_given l.reader
