-- The text that says what the codes of a table's columns stand for. Numbers are little-endian, of
-- eight bytes.
use Rattle.std.specs.Prelude.{ℕ, List, [], ◌∷◌, ◌++◌, length, codes, Option, Some, None}
use Rattle.std.specs.Int.{w64, to_le_bytes}
use Rattle.std.specs.List.{flat_map}
use Rattle.bw_encode.specs.Column.{Encoding, Numbers, Codes}

-- its first eight bytes
unfoldable pub magic : List ℕ
magic = codes "BWFIELDS"

abbrev pub number_bytes : ℕ → List ℕ
number_bytes n = to_le_bytes w64 n

-- a number for each of several numbers, and for the length of each field
abbrev pub numbers_bytes : List ℕ → List ℕ
numbers_bytes numbers = flat_map number_bytes numbers

abbrev pub lengths_bytes : List (List ℕ) → List ℕ
lengths_bytes fields = flat_map (λ field. number_bytes (length field)) fields

-- the fields themselves, one after another
abbrev pub fields_bytes : List (List ℕ) → List ℕ
fields_bytes fields = flat_map (λ field. field) fields

-- a list of distinct fields: how many there are, how often each occurs, its length, and its bytes
abbrev pub list_bytes : List (List ℕ) → List ℕ → List ℕ
list_bytes list counts = number_bytes (length list) ++ numbers_bytes counts ++ lengths_bytes list
    ++ fields_bytes list

-- the byte 0 for a column of numbers; for one of codes, the byte 1 and its list
abbrev pub encoding_bytes : Encoding → List ℕ
encoding_bytes (Numbers values) = 0 ∷ []
encoding_bytes (Codes list counts codes) = 1 ∷ list_bytes list counts

-- how many columns there are, and what each is
unfoldable pub fields_text : List Encoding → List ℕ
fields_text encodings = magic ++ number_bytes (length encodings)
    ++ flat_map encoding_bytes encodings

-- after a limit of rows: how many bytes of the CSV text were read
abbrev pub end_bytes : Option ℕ → ℕ → List ℕ
end_bytes None bytes = []
end_bytes (Some rows) bytes = number_bytes bytes
