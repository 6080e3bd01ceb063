-- A CSV text that is being written.
use Rattle.std.specs.Prelude.{◌≡◌, ◌==◌, ℕ, Bool, true, false, List, [], ◌∷◌, ◌++◌, Some, not, Vec}
use Rattle.std.specs.declared.alloc.Global.{Global}
use Rattle.std.specs.List.{join_with_byte}
use Rattle.csv.specs.declared.writer.Writer.{Writer}
use Rattle.csv.specs.Writing.{fields_written, has_written, text_written, writer_setup}
use Rattle.bw_answer.specs.Field.{answer_writer}
use Rattle.bw_answer.specs.declared.csv_text.CsvText.{CsvText}

-- the record has a field
abbrev pub is_begun : List (List ℕ) → Bool
is_begun [] = false
is_begun (field ∷ fields) = true

-- the writer has these bytes of finished records, and then these fields of the current one
pub record Drafts (writer : Writer (Vec ℕ Global)) (ended : List ℕ)
    (fields : List (List ℕ)) : Type 0 where
  pub setup : writer_setup writer ≡ answer_writer
  pub bytes : text_written (λ bytes. Some bytes.items) writer
      ≡ Some (ended ++ join_with_byte 44 fields)
  pub shown : has_written writer ≡ is_begun fields
  pub begun : (fields_written writer == 0) ≡ not (is_begun fields)

-- the text's writer has these bytes and these fields
abbrev pub Holds : CsvText → List ℕ → List (List ℕ) → Type 0
Holds text ended fields = Drafts text.writer ended fields
