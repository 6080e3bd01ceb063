-- What is read of a schema text is spelled by it, and what is spelled is read.
use Rattle.std.proofs.Common.{◌≡◌, ℕ, ◌<◌, ◌≤◌, List, [], ◌∷◌, ◌++◌, length, true, false, not}
use Rattle.std.proofs.Common.{◌||◌, Option, Some, None, Result, Ok, Err, refl, ap, sym, subst, ◌∙◌}
use Rattle.std.proofs.Common.{arith, IfOk, nat_le, nat_lt, append_assoc, length-append}
use Rattle.std.specs.List.{list_any, AllZip}
use Rattle.std.proofs.lemmas.Bool.{leb-false, lt-leb, le-ltb, ltb-false, not-false, and_parts}
use Rattle.std.proofs.lemmas.Bool.{or_parts, not-true}
use Rattle.std.proofs.lemmas.List.{length-map, append-nil, map-append}
use Rattle.std.proofs.lemmas.List.Folds.{list_any-append}
use Rattle.bw_model.specs.declared.fault.Fault.{Fault}
use Rattle.bw_model.specs.declared.schema.Schema.{Schema}
use Rattle.bw_model.specs.Fault.{MatchesUnlessOom, ◌>>=◌, at_line, nowhere}
use Rattle.bw_text.specs.Lines.{NumberedWords, lines_in, end_in, whole, is_empty}
use Rattle.bw_model.specs.Name.{is_name, are_apart}
use Rattle.bw_model.specs.SchemaText.{ColumnShape, SchemaShape, schema_shape, shape_names, is_range}
use Rattle.bw_model.specs.SchemaText.{column_words, table_words, table_on, named_table, column_on}
use Rattle.bw_model.specs.SchemaText.{next_column, after_room, columns_on, with_columns, schema_on}
use Rattle.bw_model.specs.SchemaText.{schema_of, SpellsColumn, SpellsSchema, IsSchemaText}
use Rattle.bw_text.specs.Text.{same_text}
use Rattle.bw_model.proofs.SchemaLemmas.{are_apart-push}
use Rattle.bw_model.proofs.FaultLemmas.{bind_ok, not_refused}

-- a column that was taken has passed every test
record Taken (before : List (List ℕ)) (line : NumberedWords) (column : ColumnShape) : Type 0 where
  spelled : SpellsColumn line column
  room : length before < 64
  new : list_any (λ name. same_text name column.name) before ≡ false

taken_by : (before : List (List ℕ)) (line : NumberedWords) (words : Option ColumnShape) (column : ColumnShape)
    → column_words line.words ≡ words → next_column before line.number words ≡ Ok column → Taken before line column
taken_by before line None column w e = absurd (cc e)
taken_by before line (Some found) column w e =
    let room = not_refused (nat_le 64 (length before)) (at_line 105 line.number) (after_room before line.number found) column e in
    let named = not_refused (not (is_name found.name)) (at_line 102 line.number) _ column room.1 in
    let new = not_refused (list_any (λ name. same_text name found.name) before) (at_line 104 line.number) _ column named.1 in
    let range = not_refused (not (is_range found.lo found.hi)) (at_line 103 line.number) (Ok found) column new.1 in
    let same : found ≡ column = cc range.1 in
    let P : ColumnShape → Type 0 = λ c. Taken before line c in
    subst P same (record {
      spelled = (w, not-false _ named.0, not-false _ range.0);
      room = leb-false 64 (length before) room.0;
      new = new.0;
    })

taken : (before : List (List ℕ)) (line : NumberedWords) (column : ColumnShape) → column_on before line ≡ Ok column → Taken before line column
taken before line column e = taken_by before line (column_words line.words) column refl e

shape_names-push : (columns : List ColumnShape) (column : ColumnShape) → shape_names (columns ++ column ∷ []) ≡ shape_names columns ++ column.name ∷ []
shape_names-push [] column = refl
shape_names-push (c ∷ columns) column = ap (λ (names : List (List ℕ)). c.name ∷ names) (shape_names-push columns column)

-- columns that were read after others
record Added (before : List ColumnShape) (lines : List NumberedWords) (columns rest : List ColumnShape) : Type 0 where
  joined : columns ≡ before ++ rest
  spelled : AllZip SpellsColumn lines rest
  limited : length columns ≤ 64
  apart : are_apart (shape_names columns) ≡ true

added : (before : List ColumnShape) (lines : List NumberedWords) (columns : List ColumnShape)
    → length before ≤ 64 → are_apart (shape_names before) ≡ true → columns_on before lines ≡ Ok columns
    → (rest : List ColumnShape) × Added before lines columns rest
unfolding columns_on
added before [] columns few apart e =
    let same : before ≡ columns = cc e in
    let P : List ColumnShape → Type 0 = λ cs. Added before [] cs [] in
    ([], subst P same (record { joined = sym (append-nil before); spelled = tt; limited = few; apart = apart }))
added before (line ∷ lines) columns few apart e =
    let first = bind_ok (column_on (shape_names before) line) (λ column. columns_on (before ++ column ∷ []) lines) columns e in
    let column = first.0 in
    let facts = taken (shape_names before) line column first.1 in
    let room : length before < 64 = omega (arith, facts.room, length-map before (λ (c : ColumnShape). c.name)) in
    let few' : length (before ++ column ∷ []) ≤ 64 = omega (arith, length-append before (column ∷ [])) in
    let apart' : are_apart (shape_names (before ++ column ∷ [])) ≡ true = rw (shape_names-push before column) (are_apart-push (shape_names before) column.name apart facts.new) in
    let others = added (before ++ column ∷ []) lines columns few' apart' first.2 in (
      column ∷ others.0,
      record {
        joined = others.1.joined ∙ append_assoc before (column ∷ []) others.0;
        spelled = (facts.spelled, others.1.spelled);
        limited = others.1.limited;
        apart = others.1.apart;
      },
    )

named : (number : ℕ) (words : Option (List ℕ)) (name : List ℕ) → named_table number words ≡ Ok name → (words ≡ Some name) × (is_name name ≡ true)
named number None name e = absurd (cc e)
named number (Some word) name e =
    let passed = not_refused (not (is_name word)) (at_line 102 number) (Ok word) name e in
    let same : word ≡ name = cc passed.1 in
    (ap Some same, rw (← same) (not-false _ passed.0))

pub not_empty : {A : Type 0} (xs : List A) → is_empty xs ≡ false → 1 ≤ length xs
not_empty [] e = absurd (cc e)
not_empty (x ∷ xs) e = omega arith

spelled_by : (lines : List NumberedWords) (end : ℕ) (schema : SchemaShape) → schema_on lines end ≡ Ok schema → SpellsSchema lines schema
unfolding schema_on are_apart
spelled_by [] end schema e = absurd (cc e)
spelled_by (line ∷ lines) end schema e =
    let table = bind_ok (table_on line) (λ name. columns_on [] lines >>= λ columns. with_columns name end columns) schema e in
    let columns = bind_ok (columns_on [] lines) (λ columns. with_columns table.0 end columns) schema table.2 in
    let name = named line.number (table_words line.words) table.0 table.1 in
    let some = not_refused (is_empty columns.0) (at_line 105 end) _ schema columns.2 in
    let all = added [] lines columns.0 (omega arith) refl columns.1 in
    let same : columns.0 ≡ all.0 = all.1.joined in
    let P : SchemaShape → Type 0 = λ s. SpellsSchema (line ∷ lines) s in
    let spelled : AllZip SpellsColumn lines columns.0 = rw same all.1.spelled in
    let whole_schema : record { name = table.0; columns = columns.0 } ≡ schema = cc some.1 in
    subst P whole_schema (name.0, name.1, spelled, not_empty columns.0 some.0, all.1.limited, all.1.apart)

-- what is read is spelled
pub spelled_of : (text : List ℕ) (schema : SchemaShape) → schema_of text ≡ Ok schema → IsSchemaText text schema
unfolding schema_of
spelled_of text schema e =
    let short = not_refused (nat_lt 65536 (length text)) (nowhere 106) _ schema e in
    (ltb-false _ _ short.0, spelled_by (lines_in (whole text)) (end_in (whole text)) schema short.1)

-- a name among names that are apart is none of those before it
apart_at : (names : List (List ℕ)) (name : List ℕ) (more : List (List ℕ)) → are_apart (names ++ name ∷ more) ≡ true → list_any (λ other. same_text other name) names ≡ false
unfolding are_apart
apart_at [] name more e = refl
apart_at (other ∷ others) name more e =
    let parts = and_parts (not (list_any (same_text other) (others ++ name ∷ more))) (are_apart (others ++ name ∷ more)) e in
    let none = not-true _ parts.0 in
    let split = sym (list_any-append (same_text other) others (name ∷ more)) ∙ none in
    let here = or_parts (list_any (same_text other) others) (same_text other name || list_any (same_text other) more) split in
    let apart = or_parts (same_text other name) (list_any (same_text other) more) here.1 in
    rw (apart.0, apart_at others name more parts.1) refl

read_by : (before rest : List ColumnShape) (lines : List NumberedWords) → AllZip SpellsColumn lines rest → length (before ++ rest) ≤ 64
    → are_apart (shape_names (before ++ rest)) ≡ true → columns_on before lines ≡ Ok (before ++ rest)
unfolding columns_on
read_by before [] [] h few apart = ap Ok (sym (append-nil before))
read_by before (column ∷ rest) (line ∷ lines) h few apart =
    let names : shape_names (before ++ column ∷ rest) ≡ shape_names before ++ column.name ∷ shape_names rest = map-append _ before (column ∷ rest) in
    let room : nat_le 64 (length (shape_names before)) ≡ false =
    lt-leb 64 (length (shape_names before)) (omega (arith, few, length-append before (column ∷ rest), length-map before (λ (c : ColumnShape). c.name))) in
    let new = apart_at (shape_names before) column.name (shape_names rest) (rw (← names) apart) in
    let again : (before ++ column ∷ []) ++ rest ≡ before ++ column ∷ rest = append_assoc before (column ∷ []) rest in
    let next = read_by (before ++ column ∷ []) rest lines h.1 (rw again few) (rw again apart) in
    rw (h.0.0, room, h.0.1, new, h.0.2) (next ∙ ap Ok again)
read_by before _ _ h few apart = absurd h

one_or_more : (columns : List ColumnShape) → 1 ≤ length columns → is_empty columns ≡ false
one_or_more [] h = absurd (omega arith)
one_or_more (c ∷ columns) h = refl

read_on : (lines : List NumberedWords) (end : ℕ) (schema : SchemaShape) → SpellsSchema lines schema → schema_on lines end ≡ Ok schema
unfolding schema_on
read_on [] end schema h = absurd h
read_on (line ∷ lines) end schema h =
    rw (h.0, h.1, read_by [] schema.columns lines h.2 h.4 h.5, one_or_more schema.columns h.3) refl

-- what is spelled is read
pub read_of : (text : List ℕ) (schema : SchemaShape) → IsSchemaText text schema → schema_of text ≡ Ok schema
unfolding schema_of
read_of text schema h =
    let short : nat_lt 65536 (length text) ≡ false = le-ltb _ _ h.0 in
    rw short (read_on (lines_in (whole text)) (end_in (whole text)) schema h.1)

-- the same of what a call gave
pub spelled_from : (text : List ℕ) (result : Result Schema Fault) → MatchesUnlessOom schema_shape result (schema_of text) → IfOk result (λ schema. IsSchemaText text (schema_shape schema))
spelled_from text (Ok schema) e = spelled_of text (schema_shape schema) e
spelled_from text (Err fault) e = tt

pub accepted_from : (text : List ℕ) (result : Result Schema Fault) → MatchesUnlessOom schema_shape result (schema_of text)
    → (schema : SchemaShape) → IsSchemaText text schema → MatchesUnlessOom schema_shape result (Ok schema)
accepted_from text result e schema h = let P : Result SchemaShape Fault → Type 0 = λ r. MatchesUnlessOom schema_shape result r in subst P (read_of text schema h) e
