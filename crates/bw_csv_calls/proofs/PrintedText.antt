-- The text of a schema spells it.
use Rattle.std.proofs.Common.{◌≡◌, ◌∙◌, refl, sym, ap, subst, ℕ, ℤ, ◌+◌, ◌*◌, ◌<◌, ◌≤◌, Bool, true}
use Rattle.std.proofs.Common.{false, not, ◌&&◌, All, List, [], ◌∷◌, ◌++◌, length, map, drop, get_or}
use Rattle.std.proofs.Common.{add-one, Some, nat_le, append_assoc, length-append, arith, leb-true}
use Rattle.std.proofs.Common.{drop-cons}
use Rattle.std.specs.Fmt.{signed_decimal}
use Rattle.std.specs.List.{list_all, AllZip}
use Rattle.std.proofs.lemmas.List.{append-nil, drop_all, length-map}
use Rattle.std.proofs.lemmas.List.Elements.{All-cons, All-head, All-nil, All-tail}
use Rattle.bw_model.specs.declared.column.Column.{Column}
use Rattle.bw_model.specs.declared.schema.Schema.{Schema}
use Rattle.bw_text.specs.Keyword.{is_reserved}
use Rattle.bw_model.specs.Limits.{longest_name}
use Rattle.bw_text.specs.Lines.{NumberedWords, cut_lines, numbered_words, numbered_from}
use Rattle.bw_model.specs.Name.{is_name, are_apart}
use Rattle.bw_model.specs.Schema.{IsColumn, IsSchema}
use Rattle.bw_model.specs.SchemaText.{ColumnShape, SchemaShape, shape, shape_names, column_shape}
use Rattle.bw_model.specs.SchemaText.{schema_shape, column_words, table_words, is_range}
use Rattle.bw_model.specs.SchemaText.{SpellsColumn, SpellsSchema, IsSchemaText}
use Rattle.bw_text.specs.Text.{same_text, is_word}
use Rattle.bw_csv_calls.specs.PrintedSchema.{AreComments, column_line, columns_text, schema_text}
use Rattle.bw_csv_calls.specs.PrintedSchema.{table_line}
use Rattle.bw_text.specs.Printing.{is_plain_word, line_text, spaced_words}
use Rattle.bw_model.proofs.BitsLemmas.{both}
use Rattle.bw_model.proofs.SchemaLemmas.{shape_names-of, in_range}
use Rattle.bw_text.proofs.SpacedWords.{line_said, plain_word}
use Rattle.bw_csv_calls.proofs.PrintedBounds.{bound_spelled, bound_plain, bound_length}

-- a name is a plain word of at most 63 bytes
record IsShortWord (text : List ℕ) : Type 0 where
  plain : is_plain_word text ≡ true
  short : length text ≤ 63

short_word : (text : List ℕ) → is_name text ≡ true → IsShortWord text
unfolding is_name
short_word text h =
    let named = both (is_word text && nat_le (length text) longest_name) (not (is_reserved text)) h in
    let word = both (is_word text) (nat_le (length text) longest_name) named.0 in
    record { plain = plain_word text word.0; short = leb-true (length text) 63 word.1 }

-- the line of a table
table_said : (name rest : List ℕ) → is_name name ≡ true
    → numbered_from 1 (cut_lines (line_text (table_line name) ++ rest)) ≡ numbered_words 1 (table_line name) ∷ numbered_from 2 (cut_lines rest)
table_said name rest is =
    let plain : list_all is_plain_word (name ∷ []) ≡ true = rw ((short_word name is).plain) refl in
    line_said 1 _ (name ∷ []) rest refl refl plain

table_spelled : (name : List ℕ) → table_words (table_line name) ≡ Some name
unfolding table_words same_text
table_spelled name = refl

-- the line of a column
column_said : (number : ℕ) (name : List ℕ) (lo hi : ℤ) (nullable : Bool) (rest : List ℕ) → IsColumn (shape name lo hi nullable)
    → numbered_from number (cut_lines (line_text (column_line (shape name lo hi nullable)) ++ rest))
    ≡ numbered_words number (column_line (shape name lo hi nullable)) ∷ numbered_from (number + 1) (cut_lines rest)
column_said number name lo hi true rest is =
    line_said number _ (name ∷ signed_decimal lo ∷ signed_decimal hi ∷ []) rest refl refl
    (rw ((short_word name is.name).plain, bound_plain lo is.lo, bound_plain hi is.hi) refl)
column_said number name lo hi false rest is =
    line_said number _ (name ∷ signed_decimal lo ∷ signed_decimal hi ∷ _ ∷ _ ∷ []) rest refl refl
    (rw ((short_word name is.name).plain, bound_plain lo is.lo, bound_plain hi is.hi) refl)

column_spelled : (name : List ℕ) (lo hi : ℤ) (nullable : Bool) → IsColumn (shape name lo hi nullable)
    → column_words (column_line (shape name lo hi nullable)) ≡ Some (shape name lo hi nullable)
unfolding column_words same_text
column_spelled name lo hi true is = rw (bound_spelled lo is.lo, bound_spelled hi is.hi) refl
column_spelled name lo hi false is = rw (bound_spelled lo is.lo, bound_spelled hi is.hi) refl

column_short : (name : List ℕ) (lo hi : ℤ) (nullable : Bool) → IsColumn (shape name lo hi nullable) → length (line_text (column_line (shape name lo hi nullable))) ≤ 122
unfolding spaced_words
column_short name lo hi true is =
    let n = (short_word name is.name).short in
    let l = bound_length lo is.lo in
    let h = bound_length hi is.hi in
    simp length-append (omega arith)
column_short name lo hi false is =
    let n = (short_word name is.name).short in
    let l = bound_length lo is.lo in
    let h = bound_length hi is.hi in
    simp length-append (omega arith)

-- a column that a line spells
pub record IsSound (column : ColumnShape) : Type 0 where
  pub is : IsColumn column
  pub range : is_range column.lo column.hi ≡ true

-- a schema that lines spell
pub record AreSound (schema : SchemaShape) : Type 0 where
  pub name : is_name schema.name ≡ true
  pub columns : All IsSound schema.columns
  pub nonempty : 1 ≤ length schema.columns
  pub within_limit : length schema.columns ≤ 64
  pub apart : are_apart (shape_names schema.columns) ≡ true

-- the lines of columns spell them, with comments after
columns_spelled : (number : ℕ) (columns : List ColumnShape) (comments : List ℕ) → All IsSound columns → AreComments comments
    → AllZip SpellsColumn (numbered_from number (cut_lines (columns_text columns ++ comments))) columns
unfolding columns_text
columns_spelled number [] comments are none = rw (none number) tt
columns_spelled number (column ∷ columns) comments are none =
    let first : IsSound column = All-head IsSound column columns are in
    let rest = columns_spelled (number + 1) columns comments (All-tail IsSound column columns are) none in
    let more = columns_text columns in
    let text : (line_text (column_line column) ++ more) ++ comments ≡ line_text (column_line column) ++ (more ++ comments) =
    append_assoc (line_text (column_line column)) more comments in
    let said = column_said number column.name column.lo column.hi column.nullable (more ++ comments) first.is in
    let lines = ap (λ (l : List ℕ). numbered_from number (cut_lines l)) text ∙ said in
    subst (λ (l : List NumberedWords). AllZip SpellsColumn l (column ∷ columns)) (sym lines)
    ((column_spelled column.name column.lo column.hi column.nullable first.is, first.is.name, first.range), rest)

columns_short : (columns : List ColumnShape) → All IsSound columns → length (columns_text columns) ≤ 122 * length columns
unfolding columns_text
columns_short [] are = omega arith
columns_short (column ∷ columns) are =
    let first : IsSound column = All-head IsSound column columns are in
    let rest = columns_short columns (All-tail IsSound column columns are) in
    let here = column_short column.name column.lo column.hi column.nullable first.is in
    omega (arith, length-append (line_text (column_line column)) (columns_text columns))

table_short : (name : List ℕ) → is_name name ≡ true → length (line_text (table_line name)) ≤ 70
unfolding spaced_words
table_short name is = let n = (short_word name is).short in simp length-append (omega arith)

-- the text of a shape with comments after it spells the shape
shape_with : (schema : SchemaShape) (comments : List ℕ) → AreSound schema → AreComments comments → length comments ≤ 4096 → IsSchemaText (schema_text schema ++ comments) schema
unfolding schema_text
shape_with schema comments is none few =
    let first = line_text (table_line schema.name) in
    let more = columns_text schema.columns in
    let size : length ((first ++ more) ++ comments) ≤ 65536 =
    omega (arith, length-append (first ++ more) comments, length-append first more, table_short schema.name is.name, columns_short schema.columns is.columns, is.within_limit) in
    let lines : numbered_from 1 (cut_lines ((first ++ more) ++ comments)) ≡ numbered_words 1 (table_line schema.name) ∷ numbered_from 2 (cut_lines (more ++ comments)) =
    ap (λ (l : List ℕ). numbered_from 1 (cut_lines l)) (append_assoc first more comments) ∙ table_said schema.name (more ++ comments) is.name in (
      size,
      subst (λ (l : List NumberedWords). SpellsSchema l schema) (sym lines) (
        table_spelled schema.name,
        is.name,
        columns_spelled 2 schema.columns comments is.columns none,
        is.nonempty,
        is.within_limit,
        is.apart,
      ),
    )

are_sound : (columns : List Column) → All IsColumn (map column_shape columns) → All IsSound (map column_shape columns)
are_sound [] are = All-nil IsSound
are_sound (column ∷ columns) are =
    All-cons IsSound (column_shape column) (map column_shape columns)
    (record { is = All-head IsColumn (column_shape column) (map column_shape columns) are; range = in_range column })
    (are_sound columns (All-tail IsColumn (column_shape column) (map column_shape columns) are))

-- so does that of a schema
pub text_spells : (schema : Schema) (comments : List ℕ) → IsSchema (schema_shape schema) → AreComments comments → length comments ≤ 4096
    → IsSchemaText (schema_text (schema_shape schema) ++ comments) (schema_shape schema)
text_spells schema comments is none few =
    let columns = schema.columns.items in
    let sound : AreSound (schema_shape schema) = record {
      name = is.name;
      columns = are_sound columns is.columns;
      nonempty = omega (arith, length-map columns column_shape, schema.inhabited);
      within_limit = omega (arith, length-map columns column_shape, schema.limited);
      apart = ap are_apart (shape_names-of columns) ∙ schema.apart;
    } in
    shape_with (schema_shape schema) comments sound none few

-- no comments are comments
pub no_comments : AreComments []
unfolding cut_lines numbered_from
no_comments number = refl

-- the text of a shape spells it
pub shape_spelled : (schema : SchemaShape) → AreSound schema → IsSchemaText (schema_text schema) schema
shape_spelled schema is =
    subst (λ (text : List ℕ). IsSchemaText text schema) (append-nil (schema_text schema)) (shape_with schema [] is no_comments (omega arith))

-- the text of columns, one more at a time
pub columns_text-next : (columns : List Column) (i : ℕ) (d : Column) → i < length columns →
    columns_text (map column_shape (drop i columns)) ≡ line_text (column_line (column_shape (get_or columns i d))) ++ columns_text (map column_shape (drop (i + 1) columns))
unfolding columns_text
columns_text-next columns i d lt = rw (add-one, drop-cons columns i d lt) refl

pub columns_text-end : (columns : List Column) (i : ℕ) → length columns ≤ i → columns_text (map column_shape (drop i columns)) ≡ []
unfolding columns_text
columns_text-end columns i le = rw (drop_all i columns le) refl

pub all_written : (schema : Schema) (text : List ℕ) → text ++ [] ≡ line_text (table_line schema.name) ++ columns_text (map column_shape schema.columns.items)
    → text ≡ schema_text (schema_shape schema)
unfolding schema_text
all_written schema text e = sym (append-nil text) ∙ e
