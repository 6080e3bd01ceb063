-- The columns that the chains of a certificate name.
use Rattle.std.specs.Prelude.{ℕ, Bool, true, false, ◌&&◌, List, Option, Some, None}
use Rattle.std.specs.List.{list_all}
use Rattle.bw_model.specs.declared.column.Column.{Column}
use Rattle.bw_model.specs.Column.{column_named}
use Rattle.bw_cert_text.specs.CertificateFields.{ColumnFields, One, Two, CertificateFields}

-- the word names one of these columns
abbrev pub is_found : Option ℕ → Bool
is_found None = false
is_found (Some c) = true

abbrev pub is_column : List Column → List ℕ → Bool
is_column columns word = is_found (column_named columns word)

-- each word of a chain's columns names one of these columns
abbrev pub are_columns : List Column → ColumnFields → Bool
are_columns columns (One kind word start len bound node prev) = is_column columns word
are_columns columns (Two kind left right len node prev) = is_column columns left
    && is_column columns right

-- each word of a certificate's chains names one of these columns
abbrev pub has_columns : List Column → CertificateFields → Bool
has_columns columns certificate = list_all (λ chain. are_columns columns chain.columns)
    certificate.chains
