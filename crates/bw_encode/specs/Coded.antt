-- What a coded column says of its fields.
use Rattle.std.specs.Prelude.{◌≡◌, true, ℕ, List}
use Rattle.bw_model.specs.SchemaText.{is_range}
use Rattle.bw_encode.specs.declared.coded.Coded.{Coded}
use Rattle.bw_encode.specs.declared.coded.Coding.{Coding}
use Rattle.bw_encode.specs.declared.coded.Coding.TheVariants as coding
use Rattle.bw_encode.specs.Column.{Encoding, Numbers, Codes, IsEncodingOf, values_in}
use Rattle.bw_encode.specs.Fields.{texts_under}
use Rattle.bw_encode.specs.Seen.{IsSeenOf}

abbrev pub encoding_by : Coding → Encoding
encoding_by (coding.Numbers values) = Numbers values.now
encoding_by (coding.Codes dictionary) = Codes (texts_under dictionary.fields.items)
    dictionary.counts.items dictionary.codes.items

-- the fields of a column, and what encodes them
abbrev pub fields_in : Coded → List (List ℕ)
fields_in column = column.fields.now

abbrev pub encoding_of : Coded → Encoding
encoding_of column = encoding_by column.coding

-- a column's encoding is one of its fields, what was seen is of its values, and a table can have
-- them
pub record IsCoded (column : Coded) : Type 0 where
  pub encoding : IsEncodingOf (fields_in column) (encoding_of column)
  pub seen : IsSeenOf (values_in (encoding_of column)) column.seen
  pub range : is_range column.seen.lo column.seen.hi ≡ true
