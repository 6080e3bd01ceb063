-- The words for the comparison of a chain, in a certificate text.
use Rattle.std.specs.Prelude.{ℕ, List, [], ◌∷◌, Option, codes, find}
use Rattle.bw_text.specs.declared.form.Form.{Form}
use Rattle.bw_text.specs.declared.form.Form.TheVariants as form
use Rattle.bw_text.specs.Text.{same_text}

-- the forms of chains: of one column, and of two
abbrev pub form_spelling : Form → List ℕ
form_spelling form.Less = codes "LT"
form_spelling form.Equal = codes "EQ"
form_spelling form.LessTwo = codes "LT2"
form_spelling form.EqualTwo = codes "EQ2"

abbrev pub forms : List Form
forms = form.Less ∷ form.Equal ∷ form.LessTwo ∷ form.EqualTwo ∷ []

unfoldable pub form_of : List ℕ → Option Form
form_of word = find (λ form. same_text (form_spelling form) word) forms
