-- Truth values told by two bits: whether one is TRUE, and whether it isn't FALSE.
use Rattle.std.proofs.Common.{◌≡◌, ◌∙◌, refl, sym, ap, ℕ, ℤ, ◌+◌, ◌<◌, List, [], ◌∷◌, ◌++◌, map}
use Rattle.std.proofs.Common.{take, drop, length, get_or, Bool, true, false, not, cond, ◌&&◌, ◌||◌}
use Rattle.std.proofs.Common.{Some, None}
use Rattle.std.proofs.lemmas.List.{map-append, take_more, take-append-drop}
use Rattle.std.proofs.Math.Bool.{and-false, or-true}
use Rattle.bw_model.specs.declared.cond.Op.{Op}
use Rattle.bw_model.specs.declared.cond.Truth.{Truth}
use Rattle.bw_model.specs.declared.cond.Truth.TheVariants.{No, Unknown, Yes}
use Rattle.bw_model.specs.Truth.{all_of, any_of, compare_values, greatest, holds, is_truth, least}
use Rattle.bw_model.specs.Truth.{negation, truth_from}
use Rattle.bw_rowwise.proofs.LogicLemmas.{greatest_assoc, least_assoc}
use Rattle.bw_rowwise.specs.Lanes.{AreTruths}
use Rattle.bw_rowwise.specs.declared.truths.Truths.{Truths}

pub least_yes : (a b : Truth) → (is_truth a Yes && is_truth b Yes) ≡ is_truth (least a b) Yes
least_yes Unknown Yes = refl
least_yes _ _ = refl

pub least_maybe : (a b : Truth) → (not (is_truth a No) && not (is_truth b No)) ≡ not (is_truth (least a b) No)
least_maybe Unknown Yes = refl
least_maybe _ _ = refl

pub greatest_yes : (a b : Truth) → (is_truth a Yes || is_truth b Yes) ≡ is_truth (greatest a b) Yes
greatest_yes Unknown Yes = refl
greatest_yes _ _ = refl

pub greatest_maybe : (a b : Truth) → (not (is_truth a No) || not (is_truth b No)) ≡ not (is_truth (greatest a b) No)
greatest_maybe Unknown Yes = refl
greatest_maybe _ _ = refl

pub negation_yes : (a : Truth) → not (not (is_truth a No)) ≡ is_truth (negation a) Yes
negation_yes Yes = refl
negation_yes _ = refl

pub negation_maybe : (a : Truth) → not (is_truth a Yes) ≡ not (is_truth (negation a) No)
negation_maybe Yes = refl
negation_maybe _ = refl

pub no_by : (a : Truth) → not (not (is_truth a No)) ≡ is_truth a No
no_by Yes = refl
no_by _ = refl

pub unknown_by : (a : Truth) → (not (is_truth a No) && not (is_truth a Yes)) ≡ is_truth a Unknown
unknown_by Yes = refl
unknown_by _ = refl

pub is_yes : (a : Truth) → is_truth a Yes ≡ true → a ≡ Yes
is_yes Yes is = refl
is_yes _ is = absurd (cc is)

pub from_yes : (b : Bool) → b ≡ is_truth (truth_from b) Yes
from_yes true = refl
from_yes false = refl

pub from_maybe : (b : Bool) → b ≡ not (is_truth (truth_from b) No)
from_maybe true = refl
from_maybe false = refl

kept_yes : (h : Bool) → (h && true) ≡ is_truth (truth_from h) Yes
kept_yes true = refl
kept_yes false = refl

kept_maybe : (h : Bool) → (h || false) ≡ not (is_truth (truth_from h) No)
kept_maybe true = refl
kept_maybe false = refl

-- a comparison is TRUE if it holds and no value is null, and isn't FALSE if it holds or a
-- value is null
pub compared_yes : (op : Op) (p q : Bool) (m n : ℤ) → (holds op m n && not (p || q)) ≡ is_truth (compare_values op (cond p None (Some m)) (cond q None (Some n))) Yes
compared_yes op false false m n = kept_yes (holds op m n)
compared_yes op _ _ m n = and-false (holds op m n)

pub compared_maybe : (op : Op) (p q : Bool) (m n : ℤ) → (holds op m n || (p || q)) ≡ not (is_truth (compare_values op (cond p None (Some m)) (cond q None (Some n))) No)
compared_maybe op false false m n = kept_maybe (holds op m n)
compared_maybe op _ _ m n = or-true (holds op m n)

-- the same if the second side is a number
pub compared_one_yes : (op : Op) (p : Bool) (m n : ℤ) → (holds op m n && not p) ≡ is_truth (compare_values op (cond p None (Some m)) (Some n)) Yes
compared_one_yes op true m n = and-false (holds op m n)
compared_one_yes op false m n = kept_yes (holds op m n)

pub compared_one_maybe : (op : Op) (p : Bool) (m n : ℤ) → (holds op m n || p) ≡ not (is_truth (compare_values op (cond p None (Some m)) (Some n)) No)
compared_one_maybe op true m n = or-true (holds op m n)
compared_one_maybe op false m n = kept_maybe (holds op m n)

-- the same truths, said otherwise
pub alike : (truths : Truths) (f g : ℕ → Truth) → AreTruths truths f → ((lane : ℕ) → lane < 512 → f lane ≡ g lane) → AreTruths truths g
alike truths f g are same = record {
  yes = λ lane within. are.yes lane within ∙ ap (λ (t : Truth). is_truth t Yes) (same lane within);
  maybe = λ lane within. are.maybe lane within ∙ ap (λ (t : Truth). not (is_truth t No)) (same lane within);
}

-- AND of the first parts, and of one more
least-Yes : (a : Truth) → least a Yes ≡ a
least-Yes Yes = refl
least-Yes _ = refl

all_of-append : (xs ys : List Truth) → all_of (xs ++ ys) ≡ least (all_of xs) (all_of ys)
all_of-append [] ys = refl
all_of-append (x ∷ xs) ys = ap (least x) (all_of-append xs ys) ∙ sym (least_assoc x (all_of xs) (all_of ys))

pub all_more : {A : Type 0} (f : A → Truth) (parts : List A) (i : ℕ) (x : A) → i < length parts → x ≡ get_or parts i x → least (all_of (map f (take i parts))) (f x) ≡ all_of (map f (take (i + 1) parts))
all_more f parts i x within is =
    sym (ap (λ l. all_of (map f l)) (take_more parts i x within ∙ ap (λ y. take i parts ++ y ∷ []) (sym is)) ∙ ap all_of (map-append f (take i parts) (x ∷ []))
    ∙ all_of-append (map f (take i parts)) (f x ∷ []) ∙ ap (least (all_of (map f (take i parts)))) (least-Yes (f x)))

-- once they are FALSE so are all
pub all_false : {A : Type 0} (f : A → Truth) (parts : List A) (i : ℕ) → all_of (map f (take i parts)) ≡ No → No ≡ all_of (map f parts)
all_false f parts i is =
    sym (ap (λ l. all_of (map f l)) (sym (take-append-drop i parts)) ∙ ap all_of (map-append f (take i parts) (drop i parts)) ∙ all_of-append (map f (take i parts)) (map f (drop i parts))
    ∙ ap (λ t. least t (all_of (map f (drop i parts)))) is)

-- OR of the first parts, and of one more
greatest-No : (a : Truth) → greatest a No ≡ a
greatest-No Yes = refl
greatest-No _ = refl

any_of-append : (xs ys : List Truth) → any_of (xs ++ ys) ≡ greatest (any_of xs) (any_of ys)
any_of-append [] ys = refl
any_of-append (x ∷ xs) ys = ap (greatest x) (any_of-append xs ys) ∙ sym (greatest_assoc x (any_of xs) (any_of ys))

pub any_more : {A : Type 0} (f : A → Truth) (parts : List A) (i : ℕ) (x : A) → i < length parts → x ≡ get_or parts i x → greatest (any_of (map f (take i parts))) (f x) ≡ any_of (map f (take (i + 1) parts))
any_more f parts i x within is =
    sym (ap (λ l. any_of (map f l)) (take_more parts i x within ∙ ap (λ y. take i parts ++ y ∷ []) (sym is)) ∙ ap any_of (map-append f (take i parts) (x ∷ []))
    ∙ any_of-append (map f (take i parts)) (f x ∷ []) ∙ ap (greatest (any_of (map f (take i parts)))) (greatest-No (f x)))

-- the same of one part more at a list's end
pub all_pushed : {A : Type 0} (f : A → Truth) (parts : List A) (x : A) → all_of (map f (parts ++ x ∷ [])) ≡ least (all_of (map f parts)) (f x)
all_pushed f parts x = ap all_of (map-append f parts (x ∷ [])) ∙ all_of-append (map f parts) (f x ∷ []) ∙ ap (least (all_of (map f parts))) (least-Yes (f x))

pub any_pushed : {A : Type 0} (f : A → Truth) (parts : List A) (x : A) → any_of (map f (parts ++ x ∷ [])) ≡ greatest (any_of (map f parts)) (f x)
any_pushed f parts x = ap any_of (map-append f parts (x ∷ [])) ∙ any_of-append (map f parts) (f x ∷ []) ∙ ap (greatest (any_of (map f parts))) (greatest-No (f x))

-- AND with its first truth once more is the same, and so is OR
pub least-first : (a b : Truth) → least (least a b) a ≡ least a b
least-first Yes Yes = refl
least-first Unknown Yes = refl
least-first _ _ = refl

pub greatest-first : (a b : Truth) → greatest (greatest a b) a ≡ greatest a b
greatest-first No Yes = refl
greatest-first Unknown Yes = refl
greatest-first _ _ = refl

-- once one is TRUE so are all
pub any_true : {A : Type 0} (f : A → Truth) (parts : List A) (i : ℕ) → any_of (map f (take i parts)) ≡ Yes → Yes ≡ any_of (map f parts)
any_true f parts i is =
    sym (ap (λ l. any_of (map f l)) (sym (take-append-drop i parts)) ∙ ap any_of (map-append f (take i parts) (drop i parts)) ∙ any_of-append (map f (take i parts)) (map f (drop i parts))
    ∙ ap (λ t. greatest t (any_of (map f (drop i parts)))) is)
