-- The words after the first one of a line: numbers, and numbers that may be a hyphen.
use Rattle.std.specs.Prelude.{ℕ, Bool, true, false, List, [], ◌∷◌, Option, Some, None, codes}
use Rattle.std.specs.Str.{bytes_eq}
use Rattle.bw_text.specs.Number.{natural_of}

-- a value, if there is one, and then what it leads to
infixl 10 ◌>?◌
abbrev pub ◌>?◌ : {A B : Type 0} → Option A → (A → Option B) → Option B
None >? f = None
(Some x) >? f = f x

-- a number, or a hyphen for none
abbrev pub is_hyphen : List ℕ → Bool
is_hyphen word = bytes_eq word (codes "-")

abbrev pub number_or_none : Bool → Option ℕ → Option (Option ℕ)
number_or_none hyphen (Some n) = Some (Some n)
number_or_none true None = Some None
number_or_none false None = None

unfoldable pub optional_of : List ℕ → Option (Option ℕ)
optional_of word = number_or_none (is_hyphen word) (natural_of word)

-- no word, one number, two numbers
abbrev pub nothing_in : List (List ℕ) → Option Unit
nothing_in [] = Some tt
nothing_in (word ∷ words) = None

abbrev pub number_in : List (List ℕ) → Option ℕ
number_in (n ∷ []) = natural_of n
number_in words = None

abbrev pub two_in : List (List ℕ) → Option (ℕ × ℕ)
two_in (i ∷ j ∷ []) = natural_of i >? λ first. natural_of j >? λ second. Some (first, second)
two_in words = None
