-- What a valid name is, and which lists of names have no duplicates.
use Rattle.std.specs.Prelude.{ℕ, Bool, true, List, [], ◌∷◌, length, ◌&&◌, not, nat_le}
use Rattle.std.specs.List.{list_any}
use Rattle.bw_text.specs.Text.{same_text, is_word}
use Rattle.bw_text.specs.Keyword.{is_reserved}
use Rattle.bw_model.specs.Limits.{longest_name}

-- a valid name is a word of at most 63 bytes that isn't reserved
unfoldable pub is_name : List ℕ → Bool
is_name text = is_word text && nat_le (length text) longest_name && not (is_reserved text)

-- no two names are equal, ignoring case
unfoldable pub are_apart : List (List ℕ) → Bool
are_apart [] = true
are_apart (name ∷ names) = not (list_any (same_text name) names) && are_apart names
