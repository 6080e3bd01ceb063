-- The columns of a text, coded.
use Rattle.std.proofs.Common.{◌≡◌, ◌∙◌, sym, ap, subst, ℕ, ◌<◌, true, List, [], ◌∷◌, length, map, arith, get_or, All}
use Rattle.std.proofs.lemmas.List.{get_or-map, length-map}
use Rattle.std.proofs.lemmas.List.Elements.{All-get_or, All-map}
use Rattle.bw_model.specs.declared.schema.Schema.{Schema}
use Rattle.bw_model.specs.Column.{admits_values}
use Rattle.bw_encode.specs.declared.coded.Coded.{Coded}
use Rattle.bw_encode.specs.declared.coded_table.CodedTable.{CodedTable}
use Rattle.bw_encode.specs.declared.coded_table.TextColumns.{TextColumns}
use Rattle.bw_encode.specs.Coded.{IsCoded, encoding_of, fields_in}
use Rattle.bw_encode.specs.CodedTable.{AreEncodingsOf, HasRows, IsCodedTable, encodings_in, rows_in}
use Rattle.bw_encode.specs.Column.{Encoding, IsEncodingOf, Numbers, values_in}
use Rattle.bw_encode.specs.Rows.{FieldRows, column_of}
use Rattle.bw_encode.specs.Table.{IsSchemaOf, row_at}
use Rattle.bw_encode.proofs.AdmitLemmas.{admits_row, values_size}

module _ (columns : TextColumns) (table : FieldRows) (has : HasRows columns table) where
  pub column_size : (column : ℕ) → column < table.width → length (get_or columns.columns.items column []) ≡ length table.rows
  column_size column lt = ap length (has.columns_are.each column lt) ∙ length-map table.rows _

  module _ (coded : List Coded) (same : map fields_in coded ≡ columns.columns.items) where
    pub coded_width : length coded ≡ table.width
    coded_width = sym (length-map coded fields_in) ∙ ap length same ∙ has.columns_are.count

    fields_at : (k : ℕ) (d : Coded) → k < length coded → fields_in (get_or coded k d) ≡ column_of table.rows k
    fields_at k d lt = let size = coded_width in
        sym (get_or-map fields_in coded k d [] lt) ∙ ap (λ (xs : List (List (List ℕ))). get_or xs k []) same ∙ has.columns_are.each k (omega arith)

    tall_at : (k : ℕ) (d : Coded) → k < length coded → length (fields_in (get_or coded k d)) ≡ length table.rows
    tall_at k d lt = ap length (fields_at k d lt) ∙ length-map table.rows _

    pub tall_coded : (rows : ℕ) → rows ≡ length table.rows → All (λ column. length (fields_in column) ≡ rows) coded
    tall_coded rows e = λ k d lt. tall_at k d lt ∙ sym e

    pub are_encodings : All IsCoded coded → AreEncodingsOf table (map encoding_of coded)
    are_encodings all = record {
      count = length-map coded encoding_of ∙ coded_width;
      each = λ k lt. by coded fields_at all k (let size = coded_width in omega arith);
    }
      where
        by : (coded : List Coded) → ((k : ℕ) (d : Coded) → k < length coded → fields_in (get_or coded k d) ≡ column_of table.rows k) → All IsCoded coded
            → (k : ℕ) → k < length coded → IsEncodingOf (column_of table.rows k) (get_or (map encoding_of coded) k (Numbers []))
        by [] at all k lt = absurd (omega arith)
        by (x ∷ xs) at all k lt = rw (get_or-map encoding_of (x ∷ xs) k x (Numbers []) lt)
            (subst (λ fields. IsEncodingOf fields (encoding_of (get_or (x ∷ xs) k x))) (at k x lt) (All-get_or IsCoded (x ∷ xs) k x lt all).encoding)

-- the schema admits each row
pub all_admitted : (table : CodedTable) → IsCodedTable table → (schema : Schema) → IsSchemaOf (encodings_in table) schema → (row : ℕ) → row < rows_in table
    → admits_values schema.columns.items (row_at (encodings_in table) row) ≡ true
all_admitted table is schema narrow row lt = admits_row (encodings_in table) schema narrow row
    (All-map (λ (e : Encoding). row < length (values_in e)) encoding_of table.columns.items each)
  where
    each : All (λ column. row < length (values_in (encoding_of column))) table.columns.items
    each = λ k d in'.
        let size = values_size (get_or table.columns.items k d) (is.coded k d in') in
        let tall = is.tall k d in' in
        omega arith
