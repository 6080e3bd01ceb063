-- Each word of a table is found by its spelling, ignoring case, and what is found has that
-- spelling.
use Rattle.std.proofs.Common.{◌≡◌, ◌∙◌, refl, sym, ap, ℕ, Bool, true, false, cond, List, [], ◌∷◌}
use Rattle.std.proofs.Common.{map, Some, find, bytes_eq}
use Rattle.std.specs.Char.{to_ascii_lowercase}
use Rattle.std.proofs.lemmas.Slice.Eq.{bytes_eq-Decides}
use Rattle.bw_text.specs.declared.form.Form.{Form}
use Rattle.bw_text.specs.declared.form.Form.TheVariants as form
use Rattle.bw_text.specs.declared.keyword.Keyword.{Keyword}
use Rattle.bw_text.specs.declared.keyword.Keyword.TheVariants as keyword
use Rattle.bw_text.specs.declared.line_kind.LineKind.{LineKind}
use Rattle.bw_text.specs.declared.line_kind.LineKind.TheVariants as kind
use Rattle.bw_text.specs.declared.line_kind.ConditionKind.TheVariants as condition
use Rattle.bw_text.specs.declared.line_kind.InstructionKind.TheVariants as instruction
use Rattle.bw_text.specs.declared.opcode.Opcode.{Opcode}
use Rattle.bw_text.specs.declared.opcode.Opcode.TheVariants as op
use Rattle.bw_text.specs.Form.{form_spelling, forms, form_of}
use Rattle.bw_text.specs.Keyword.{spelling, keyword_of}
use Rattle.bw_text.specs.LineKind.{kind_spelling, kinds, kind_of}
use Rattle.bw_text.specs.Opcode.{opcode_spelling, opcode_of}
use Rattle.bw_text.specs.Text.{same_text}

-- what is found meets the test
pub found : {A : Type 0} (test : A → Bool) (all : List A) (x : A) → find test all ≡ Some x → test x ≡ true
found test [] x e = absurd (cc e)
found test (y ∷ all) x e = go (test y) refl e (found test all x)
  where
    go : (b : Bool) → test y ≡ b → cond b (Some y) (find test all) ≡ Some x → (find test all ≡ Some x → test x ≡ true) → test x ≡ true
    go true is e more = let same : y ≡ x = cc e in rw (← same) is
    go false is e more = more e

-- words that are the same, ignoring case, are found alike
pub same_found : {A : Type 0} (spelling : A → List ℕ) (all : List A) (key word : List ℕ) → same_text key word ≡ true →
    find (λ (x : A). same_text (spelling x) word) all ≡ find (λ (x : A). same_text (spelling x) key) all
unfolding same_text
same_found {A} spelling all key word same =
    let alike : map to_ascii_lowercase key ≡ map to_ascii_lowercase word = (bytes_eq-Decides (map to_ascii_lowercase key) (map to_ascii_lowercase word)).0 same in
    ap (λ (lower : List ℕ). find (λ (x : A). bytes_eq (map to_ascii_lowercase (spelling x)) lower) all) (sym alike)

-- a word is itself
pub same_as_itself : (text : List ℕ) → same_text text text ≡ true
unfolding same_text
same_as_itself text = (bytes_eq-Decides (map to_ascii_lowercase text) (map to_ascii_lowercase text)).1 refl

-- the reserved words
pub keyword_of-spelling : (k : Keyword) → keyword_of (spelling k) ≡ Some k
unfolding keyword_of same_text
keyword_of-spelling keyword.And = refl
keyword_of-spelling _ = refl

-- the words of program texts
pub opcode_of-spelling : (o : Opcode) → opcode_of (opcode_spelling o) ≡ Some o
unfolding opcode_of same_text
opcode_of-spelling op.Load = refl
opcode_of-spelling _ = refl

-- the words of certificate texts
pub kind_is : (word : List ℕ) (kind : LineKind) → kind_of word ≡ Some kind → same_text (kind_spelling kind) word ≡ true
unfolding kind_of
kind_is word kind e = found (λ (k : LineKind). same_text (kind_spelling k) word) kinds kind e

pub kind_of-spelling : (k : LineKind) → kind_of (kind_spelling k) ≡ Some k
unfolding kind_of same_text
kind_of-spelling (kind.Condition condition.Compare) = refl
kind_of-spelling (kind.Instruction instruction.Load) = refl
kind_of-spelling _ = refl

kind_alike : (key word : List ℕ) → same_text key word ≡ true → kind_of word ≡ kind_of key
unfolding kind_of
kind_alike key word same = same_found kind_spelling kinds key word same

pub is_kind : (k : LineKind) (word : List ℕ) → same_text (kind_spelling k) word ≡ true → kind_of word ≡ Some k
is_kind k word same = kind_alike (kind_spelling k) word same ∙ kind_of-spelling k

pub form_is : (word : List ℕ) (f : Form) → form_of word ≡ Some f → same_text (form_spelling f) word ≡ true
unfolding form_of
form_is word f e = found (λ (k : Form). same_text (form_spelling k) word) forms f e

pub form_of-spelling : (f : Form) → form_of (form_spelling f) ≡ Some f
unfolding form_of same_text
form_of-spelling form.Less = refl
form_of-spelling _ = refl

form_alike : (key word : List ℕ) → same_text key word ≡ true → form_of word ≡ form_of key
unfolding form_of
form_alike key word same = same_found form_spelling forms key word same

pub is_form : (f : Form) (word : List ℕ) → same_text (form_spelling f) word ≡ true → form_of word ≡ Some f
is_form f word same = form_alike (form_spelling f) word same ∙ form_of-spelling f
