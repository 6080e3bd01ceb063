-- The texts under references.
use Rattle.std.specs.Prelude.{ℕ, List, map}
use Rattle.std.specs.Borrow.{Bor}

-- the text under a reference, and under each of several
abbrev pub text_under : Bor (List ℕ) → List ℕ
text_under reference = reference.now

abbrev pub texts_under : List (Bor (List ℕ)) → List (List ℕ)
texts_under references = map text_under references
