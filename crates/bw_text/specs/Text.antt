-- Texts of ASCII letters, and the words made of them.
use Rattle.std.specs.Prelude.{ℕ, Bool, false, List, [], ◌∷◌, map, ◌&&◌, ◌||◌, ◌==◌}
use Rattle.std.specs.List.{list_all}
use Rattle.std.specs.Str.{bytes_eq}
use Rattle.std.specs.Char.{is_ascii_alphabetic, is_ascii_alphanumeric, to_ascii_lowercase}

-- the texts are the same, ignoring the case of ASCII letters
unfoldable pub same_text : List ℕ → List ℕ → Bool
same_text a b = bytes_eq (map to_ascii_lowercase a) (map to_ascii_lowercase b)

-- the byte is a letter or an underscore, which is byte 95
abbrev pub begins_word : ℕ → Bool
begins_word c = is_ascii_alphabetic c || (c == 95)

abbrev pub goes_on_in_word : ℕ → Bool
goes_on_in_word c = is_ascii_alphanumeric c || (c == 95)

-- the text is a letter or an underscore, followed by letters, digits and underscores
abbrev pub is_word : List ℕ → Bool
is_word [] = false
is_word (c ∷ cs) = begins_word c && list_all goes_on_in_word cs
