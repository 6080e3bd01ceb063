-- Fields with their places before sorting.
use Rattle.std.specs.Prelude.{◌≡◌, ◌<◌, ◌+◌, ◌*◌, ℕ, zero, suc, List, [], ◌∷◌, length, map, All}
use Rattle.std.specs.Prelude.{slice_index_or, slice_index}
use Rattle.bw_encode.specs.declared.ranked.Ranked.{Ranked}

abbrev pub entry_bytes : Ranked → List ℕ
entry_bytes entry = entry.bytes.now

abbrev pub entries_bytes : List Ranked → List (List ℕ)
entries_bytes entries = map entry_bytes entries

-- the number that the next bytes of a text are, after a number; a byte that isn't there counts as 0
unfoldable pub prefix_from : ℕ → ℕ → List ℕ → ℕ
prefix_from number zero bytes = number
prefix_from number (suc n) [] = prefix_from (number * 256) n []
prefix_from number (suc n) (c ∷ cs) = prefix_from (number * 256 + c) n cs

-- this is the number of a text's first eight bytes
pub record IsPrefix (bytes : List ℕ) (prefix : ℕ) : Type 0 where
  pub value : prefix ≡ prefix_from 0 8 bytes
  pub small : (i : ℕ) → i < 8 → slice_index_or bytes i 0 < 256

-- each entry has the number of its first eight bytes
abbrev pub ArePrefixed : List Ranked → Type 0
ArePrefixed entries = All (λ entry. IsPrefix entry.bytes.now entry.prefix) entries

-- the place of the entry of an index
abbrev pub place_in : List Ranked → ℕ → Ranked → ℕ
place_in entries index d = (slice_index_or entries index d).place

-- each entry's place is its index
abbrev pub ArePlaced : List Ranked → Type 0
ArePlaced entries = (index : ℕ) (d : Ranked) → index < length entries
    → place_in entries index d ≡ index

-- the places are below the number of entries, and no two entries have the same
pub record HasOwnPlaces (entries : List Ranked) : Type 0 where
  pub low : All (λ entry. entry.place < length entries) entries
  pub apart : (i j : ℕ) (d : Ranked) → i < j → j < length entries
      → place_in entries i d ≡ place_in entries j d → ⊥

-- at the place of each of the first entries is the entry's index
pub record AreRanks (entries : List Ranked) (count : ℕ) (ranks : List ℕ) : Type 0 where
  pub size : length ranks ≡ length entries
  pub each : (index : ℕ) (d : Ranked) → index < count
      → slice_index ranks (place_in entries index d) ≡ index
