-- The schema of encoded columns admits their rows.
use Rattle.std.proofs.Common.{◌≡◌, ◌∙◌, refl, sym, ap, subst, ℕ, suc, ◌<◌, true, List, [], ◌∷◌, length, Some, None, arith, get_or, slice_get, All}
use Rattle.std.proofs.lemmas.List.{get_or-map, length-map}
use Rattle.std.proofs.lemmas.List.Elements.{All-get_or}
use Rattle.std.proofs.lemmas.Map.Keys.{any_passes_from_place}
use Rattle.std.proofs.lemmas.Option.{slice_get-get_or}
use Rattle.bw_model.specs.declared.column.Column.{Column}
use Rattle.bw_model.specs.declared.schema.Schema.{Schema}
use Rattle.bw_model.specs.Column.{admits_value, admits_values}
use Rattle.bw_model.specs.Row.{Value}
use Rattle.bw_model.specs.Truth.{is_null}
use Rattle.bw_model.proofs.SchemaLemmas.{ordered}
use Rattle.bw_encode.specs.declared.coded.Coded.{Coded}
use Rattle.bw_encode.specs.declared.coded.Coding.{Coding}
use Rattle.bw_encode.specs.declared.coded.Coding.TheVariants as coding
use Rattle.bw_encode.specs.Coded.{IsCoded, encoding_by, encoding_of, fields_in}
use Rattle.bw_encode.specs.Column.{Encoding, IsEncodingOf, Numbers, values_in}
use Rattle.bw_encode.specs.Fields.{texts_under}
use Rattle.bw_encode.specs.Number.{value_text}
use Rattle.bw_encode.specs.Seen.{IsWithin}
use Rattle.bw_encode.specs.Table.{IsNarrowest, IsSchemaOf, row_at}
use Rattle.bw_encode.proofs.CodeLemmas.{codes_size}
use Rattle.bw_encode.proofs.TableLemmas.{names_size}

-- a column has a value for each of its fields
size_by : (fields : List (List ℕ)) (by : Coding) → IsEncodingOf fields (encoding_by by) → length (values_in (encoding_by by)) ≡ length fields
size_by fields (coding.Numbers values) is = sym (length-map values.now value_text) ∙ ap length is.spelled
size_by fields (coding.Codes d) is = length-map d.codes.items _ ∙ codes_size fields (texts_under d.fields.items) d.counts.items d.codes.items is.1

pub values_size : (column : Coded) → IsCoded column → length (values_in (encoding_of column)) ≡ length (fields_in column)
values_size column is = size_by (fields_in column) column.coding is.encoding

admits_narrow : (values : List Value) (column : Column) → IsNarrowest values column → (row : ℕ) → row < length values → admits_value column (get_or values row None) ≡ true
admits_narrow values column narrow row lt = go (get_or values row None) refl
  where
    go : (v : Value) → get_or values row None ≡ v → admits_value column v ≡ true
    go None e =
        let at : slice_get values row ≡ Some None = slice_get-get_or values row None lt ∙ ap Some e in
        narrow.nullable ∙ any_passes_from_place is_null values row None at refl
    go (Some n) e =
        let within : IsWithin column.lo column.hi (Some n) = subst (IsWithin column.lo column.hi) e (All-get_or (IsWithin column.lo column.hi) values row None lt narrow.bounds.within) in
        rw (ordered column.lo n within.0, ordered n column.hi within.1) refl

admits_each : (columns : List Column) (values : List Value) → length columns ≡ length values
    → ((k : ℕ) (column : Column) → k < length values → admits_value (get_or columns k column) (get_or values k None) ≡ true) → admits_values columns values ≡ true
admits_each [] [] e each = refl
admits_each [] (v ∷ vs) e each = absurd (omega arith)
admits_each (c ∷ cs) [] e each = absurd (omega arith)
admits_each (c ∷ cs) (v ∷ vs) e each =
    rw (each 0 c (omega arith), admits_each cs vs (omega arith) (λ k column lt. each (suc k) column (omega arith))) refl

pub admits_row : (encodings : List Encoding) (schema : Schema) → IsSchemaOf encodings schema → (row : ℕ) → All (λ encoding. row < length (values_in encoding)) encodings
    → admits_values schema.columns.items (row_at encodings row) ≡ true
admits_row encodings schema is row tall = admits_each schema.columns.items (row_at encodings row) size each
  where
    many : length schema.columns.items ≡ length encodings
    many = sym (length-map schema.columns.items (λ (column : Column). column.name)) ∙ ap length is.names ∙ names_size (length encodings)

    size : length schema.columns.items ≡ length (row_at encodings row)
    size = many ∙ sym (length-map encodings (λ (encoding : Encoding). get_or (values_in encoding) row None))

    each : (k : ℕ) (column : Column) → k < length (row_at encodings row) → admits_value (get_or schema.columns.items k column) (get_or (row_at encodings row) k None) ≡ true
    each k column lt =
        let in' : k < length encodings = omega (arith, length-map encodings (λ (encoding : Encoding). get_or (values_in encoding) row None)) in
        rw (get_or-map (λ (encoding : Encoding). get_or (values_in encoding) row None) encodings k (Numbers []) None in')
        (admits_narrow (values_in (get_or encodings k (Numbers []))) (get_or schema.columns.items k column) (is.narrow k column in') row (All-get_or (λ encoding. row < length (values_in encoding)) encodings k (Numbers []) in' tall))
