-- The distinct fields of a set, in its order.
use Rattle.std.specs.Prelude.{ℕ, List, map}
use Rattle.std.specs.List.{IsDistinct}
use Rattle.std.specs.Str.{bytes_eq}
use Rattle.bw_encode.specs.declared.field_set.Key.{Key}
use Rattle.bw_encode.specs.declared.field_set.FieldSet.{FieldSet}

abbrev pub key_bytes : Key → List ℕ
key_bytes key = key.bytes.now

abbrev pub keys_bytes : List Key → List (List ℕ)
keys_bytes keys = map key_bytes keys

abbrev pub fields_in : FieldSet → List (List ℕ)
fields_in set = keys_bytes set.keys.keys

-- no two fields are the same
abbrev pub AreDistinct : List (List ℕ) → Type 0
AreDistinct fields = IsDistinct bytes_eq fields
