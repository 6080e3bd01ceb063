-- The words of the connectives of product rows.
use Rattle.std.specs.Prelude.{ℕ, List, [], ◌∷◌, Option, codes, find}
use Rattle.bw_diagram.specs.declared.product.Connective.{Connective}
use Rattle.bw_diagram.specs.declared.product.Connective.TheVariants as op
use Rattle.bw_text.specs.Text.{same_text}

-- a connective in capitals
abbrev pub connective_spelling : Connective → List ℕ
connective_spelling op.And = codes "AND"
connective_spelling op.Or = codes "OR"
connective_spelling op.Xor = codes "XOR"
connective_spelling op.Diff = codes "DIFF"

abbrev pub connectives : List Connective
connectives = op.And ∷ op.Or ∷ op.Xor ∷ op.Diff ∷ []

unfoldable pub connective_of : List ℕ → Option Connective
connective_of word = find (λ op. same_text (connective_spelling op) word) connectives
