-- The words of connectives, and numbers that may be a hyphen.
use Rattle.std.proofs.Common.{◌≡◌, ◌∙◌, refl, subst, ℕ, Bool, true, false, List, Option, Some, None, codes}
use Rattle.std.specs.Str.{bytes_eq}
use Rattle.std.proofs.lemmas.Slice.Eq.{bytes_eq-Decides}
use Rattle.bw_diagram.specs.declared.product.Connective.{Connective}
use Rattle.bw_diagram.specs.declared.product.Connective.TheVariants as op
use Rattle.bw_text.specs.Number.{natural_of}
use Rattle.bw_text.specs.Text.{same_text}
use Rattle.bw_cert_text.specs.Operand.{◌>?◌, number_or_none, optional_of}
use Rattle.bw_cert_text.specs.Token.{IsSpelled, Perhaps}
use Rattle.bw_cert_text.specs.Connective.{connective_spelling, connectives, connective_of}
use Rattle.bw_text.proofs.WordSpelling.{found, same_found}

-- a value, if there is one, has a property
pub data IfFound {A : Type 0} (P : A → Type 0) : Option A → Type 0 where
  absent : IfFound P None
  present : {x : A} → P x → IfFound P (Some x)

pub if_found : {A : Type 0} {P : A → Type 0} (o : Option A) → ((x : A) → o ≡ Some x → P x) → IfFound P o
if_found None k = absent
if_found (Some x) k = present (k x refl)

pub and_then : {A B : Type 0} {Q : A → Type 0} {P : B → Type 0} {o : Option A} {f : A → Option B} → IfFound Q o → ((x : A) → Q x → IfFound P (f x)) → IfFound P (o >? f)
and_then absent k = absent
and_then (present {x = x} q) k = k x q

pub what_is_found : {A : Type 0} {P : A → Type 0} {o : Option A} (y : A) → IfFound P o → o ≡ Some y → P y
what_is_found y absent e = absurd (cc e)
what_is_found {A} {P} y (present {x = x} q) e = let same : x ≡ y = cc e in subst P same q

pub connective_is : (word : List ℕ) (o : Connective) → connective_of word ≡ Some o → same_text (connective_spelling o) word ≡ true
unfolding connective_of
connective_is word o e = found (λ (k : Connective). same_text (connective_spelling k) word) connectives o e

of_its_spelling : (o : Connective) → connective_of (connective_spelling o) ≡ Some o
unfolding connective_of same_text
of_its_spelling op.And = refl
of_its_spelling _ = refl

connective_alike : (key word : List ℕ) → same_text key word ≡ true → connective_of word ≡ connective_of key
unfolding connective_of
connective_alike key word same = same_found connective_spelling connectives key word same

pub is_connective : (o : Connective) (word : List ℕ) → same_text (connective_spelling o) word ≡ true → connective_of word ≡ Some o
is_connective o word same = connective_alike (connective_spelling o) word same ∙ of_its_spelling o

-- a number or a hyphen
pub optional_read : (word : List ℕ) (o : Option ℕ) → optional_of word ≡ Some o → IsSpelled (Perhaps o) word
unfolding optional_of
optional_read word o e = go (natural_of word) (bytes_eq word (codes "-")) refl refl e
  where
    go : (n : Option ℕ) (hyphen : Bool) → natural_of word ≡ n → bytes_eq word (codes "-") ≡ hyphen → number_or_none hyphen n ≡ Some o → IsSpelled (Perhaps o) word
    go (Some n) hyphen number is e = let same : Some n ≡ o = cc e in rw (← same) number
    go None true number is e = let same : None ≡ o = cc e in rw (← same) ((bytes_eq-Decides word (codes "-")).0 is)
    go None false number is e = absurd (cc e)

pub read_optional : (word : List ℕ) (o : Option ℕ) → IsSpelled (Perhaps o) word → optional_of word ≡ Some o
unfolding optional_of natural_of
read_optional word (Some n) is = rw is refl
read_optional word None is = rw is refl
