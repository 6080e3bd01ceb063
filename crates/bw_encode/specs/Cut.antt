-- Records whose fields are parts of their text.
use Rattle.std.specs.Prelude.{◌≡◌, ℕ, ◌+◌, ◌==◌, ◌||◌, ◌++◌, Bool, false, not, List, [], ◌∷◌, Option}
use Rattle.std.specs.Prelude.{Some, if◌then◌else◌}
use Rattle.csv.specs.Machine.{Read, after_end, carriage_return, is_byte, line_feed, next_record}
use Rattle.csv.specs.declared.parser.State.{State}
use Rattle.csv.specs.declared.parser.State.TheVariants as st
use Rattle.csv.specs.declared.parser.Terminator.TheVariants as term
use Rattle.bw_encode.specs.declared.cut.Cut.{Cut}
use Rattle.bw_encode.specs.declared.dialect.Dialect.{Dialect}
use Rattle.bw_encode.specs.Dialect.{config_of, loose_from}

abbrev pub starts_with : List ℕ → ℕ → Bool
starts_with [] byte = false
starts_with (c ∷ cs) byte = c == byte

-- a text starts with a byte of a record, which neither ends a line nor starts a comment
abbrev pub starts_record : Dialect → List ℕ → Bool
starts_record dialect [] = false
starts_record dialect (c ∷ cs) = not ((c == carriage_return) || (c == line_feed)
    || is_byte dialect.comment c)

-- a record with these fields, and those of the text after a byte, if that is a separator
abbrev pub read_after : Dialect → List (List ℕ) → ℕ → List ℕ → Option Read
read_after dialect fields end rest = if end == dialect.separator
    then next_record (config_of dialect) st.StartField fields [] rest
    else Some (fields, after_end term.CRLF end, rest)

-- the first loose quotation mark after a byte that ends a field, or a record of this number
abbrev pub loose_after : Dialect → ℕ → ℕ → List ℕ → Option ℕ
loose_after dialect number end rest = if end == dialect.separator
    then loose_from dialect number st.StartField rest
    else loose_from dialect (number + 1) (after_end term.CRLF end) rest

-- a field is at the start of a text, a byte ends it, and this follows
pub record IsCut (dialect : Dialect) (text : List ℕ) (cut : Cut) : Type 0 where
  pub reads : (fields : List (List ℕ))
      → next_record (config_of dialect) st.StartField fields [] text
      ≡ read_after dialect (fields ++ cut.field.now ∷ []) cut.end cut.rest.now
  pub loose : (number : ℕ) → loose_from dialect number st.StartField text
      ≡ loose_after dialect number cut.end cut.rest.now

-- a record is read from a text in a state as from the rest of it before a record
pub record StartsAt (state : State) (text rest : List ℕ) : Type 0 where
  pub reads : (dialect : Dialect) → next_record (config_of dialect) state [] [] text
      ≡ next_record (config_of dialect) st.StartRecord [] [] rest
  pub loose : (dialect : Dialect) (number : ℕ) → loose_from dialect number state text
      ≡ loose_from dialect number st.StartRecord rest
