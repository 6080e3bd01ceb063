-- A column's fields as places in the list of its distinct fields.
use Rattle.std.specs.Prelude.{◌≡◌, ◌<◌, ◌+◌, ℕ, List, [], length, map, Some, All, Contains}
use Rattle.std.specs.Prelude.{slice_get, count_by, slice_index_or}
use Rattle.std.specs.Cmp.Lexicographic.{slice_cmp}
use Rattle.std.specs.Ordering.{nat_cmp}
use Rattle.std.specs.declared.cmp.Ordering.TheVariants.{Less}
use Rattle.std.specs.Str.{bytes_eq}

-- each field is before the next one, in the order of bytes
abbrev pub IsAscending : List (List ℕ) → Type 0
IsAscending list = (place : ℕ) → place + 1 < length list
    → slice_cmp nat_cmp (slice_index_or list place []) (slice_index_or list (place + 1) []) ≡ Less

-- how often a field occurs among fields
abbrev pub occurrences : List (List ℕ) → List ℕ → ℕ
occurrences fields field = count_by (bytes_eq field) fields

-- Codes are the places of a column's fields in a list. The list is in the order of bytes, each of
-- its fields is one of the column, and the counts say how often it occurs there.
pub record IsEncoded (fields list : List (List ℕ)) (counts codes : List ℕ) : Type 0 where
  pub spelled : map (slice_get list) codes ≡ map Some fields
  pub ascending : IsAscending list
  pub used : All (Contains fields) list
  pub counted : counts ≡ map (occurrences fields) list
