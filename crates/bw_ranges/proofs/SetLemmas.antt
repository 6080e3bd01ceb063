-- AND, OR, NOT and IS of sets of truth values.
use Rattle.std.proofs.Common.{◌≡◌, refl, Bool, true, false, ◌&&◌, ◌||◌}
use Rattle.std.proofs.lemmas.Bool.{and_from, or_left, or_right}
use Rattle.bw_model.specs.declared.cond.Truth.{Truth}
use Rattle.bw_model.specs.declared.cond.Truth.TheVariants.{No, Unknown, Yes}
use Rattle.bw_model.specs.Truth.{greatest, is_truth, least, negation, truth_from}
use Rattle.bw_ranges.specs.declared.truth_set.TruthSet.{TruthSet}
use Rattle.bw_ranges.specs.TruthSet.{both, either, has_truth, opposite, test}

-- sets with the same truth values are the same
same_set : (a b : TruthSet) → a.no ≡ b.no → a.unknown ≡ b.unknown → a.yes ≡ b.yes → a ≡ b
same_set a b false_too unknown_too true_too = λ i. record { no = false_too i; unknown = unknown_too i; yes = true_too i }

and_assoc : (x y z : Bool) → ((x && y) && z) ≡ (x && (y && z))
and_assoc true y z = refl
and_assoc false y z = refl

or_assoc : (x y z : Bool) → ((x || y) || z) ≡ (x || (y || z))
or_assoc true y z = refl
or_assoc false y z = refl

-- whether AND of three may be UNKNOWN, and OR: `u` and so on if one may be UNKNOWN, `t` if it may be
-- what leaves the others as they are
unknown_assoc : (u t v s w r : Bool) →
    ((u && (v || s) || t && v) && (w || r) || (t && s) && w) ≡ (u && ((v && (w || r) || s && w) || s && r) || t && (v && (w || r) || s && w))
unknown_assoc false false v s w r = refl
unknown_assoc false true v s w r = refl
unknown_assoc true false false false w r = refl
unknown_assoc true false false true w r = refl
unknown_assoc true true false false w r = refl
unknown_assoc true true false true w r = refl
unknown_assoc true t true s true r = refl
unknown_assoc true t true s false true = refl
unknown_assoc true false true false false false = refl
unknown_assoc true false true true false false = refl
unknown_assoc true true true false false false = refl
unknown_assoc true true true true false false = refl

pub both_assoc : (a b c : TruthSet) → both (both a b) c ≡ both a (both b c)
both_assoc a b c = same_set _ _ (or_assoc a.no b.no c.no) (unknown_assoc a.unknown a.yes b.unknown b.yes c.unknown c.yes) (and_assoc a.yes b.yes c.yes)

pub either_assoc : (a b c : TruthSet) → either (either a b) c ≡ either a (either b c)
either_assoc a b c = same_set _ _ (and_assoc a.no b.no c.no) (unknown_assoc a.unknown a.no b.unknown b.no c.unknown c.no) (or_assoc a.yes b.yes c.yes)

-- AND, OR, NOT and IS of truth values in sets are in the sets that are made of these
pub both_has : (a b : TruthSet) (s t : Truth) → has_truth a s ≡ true → has_truth b t ≡ true → has_truth (both a b) (least s t) ≡ true
both_has a b No t p q = or_left a.no b.no p
both_has a b Unknown No p q = or_right a.no b.no q
both_has a b Unknown Unknown p q = or_left _ (a.yes && b.unknown) (and_from a.unknown (b.unknown || b.yes) p (or_left b.unknown b.yes q))
both_has a b Unknown Yes p q = or_left _ (a.yes && b.unknown) (and_from a.unknown (b.unknown || b.yes) p (or_right b.unknown b.yes q))
both_has a b Yes No p q = or_right a.no b.no q
both_has a b Yes Unknown p q = or_right (a.unknown && (b.unknown || b.yes)) _ (and_from a.yes b.unknown p q)
both_has a b Yes Yes p q = and_from a.yes b.yes p q

pub either_has : (a b : TruthSet) (s t : Truth) → has_truth a s ≡ true → has_truth b t ≡ true → has_truth (either a b) (greatest s t) ≡ true
either_has a b Yes t p q = or_left a.yes b.yes p
either_has a b Unknown Yes p q = or_right a.yes b.yes q
either_has a b Unknown Unknown p q = or_left _ (a.no && b.unknown) (and_from a.unknown (b.unknown || b.no) p (or_left b.unknown b.no q))
either_has a b Unknown No p q = or_left _ (a.no && b.unknown) (and_from a.unknown (b.unknown || b.no) p (or_right b.unknown b.no q))
either_has a b No Yes p q = or_right a.yes b.yes q
either_has a b No Unknown p q = or_right (a.unknown && (b.unknown || b.no)) _ (and_from a.no b.unknown p q)
either_has a b No No p q = and_from a.no b.no p q

pub opposite_has : (a : TruthSet) (t : Truth) → has_truth a t ≡ true → has_truth (opposite a) (negation t) ≡ true
opposite_has a Yes p = p
opposite_has a _ p = p

pub test_has : (a : TruthSet) (t wanted : Truth) → has_truth a t ≡ true → has_truth (test a wanted) (truth_from (is_truth t wanted)) ≡ true
test_has a No No p = p
test_has a No Unknown p = or_left a.no a.yes p
test_has a No Yes p = or_left a.no a.unknown p
test_has a Unknown No p = or_left a.unknown a.yes p
test_has a Unknown Unknown p = p
test_has a Unknown Yes p = or_right a.no a.unknown p
test_has a Yes No p = or_right a.unknown a.yes p
test_has a Yes Unknown p = or_right a.no a.yes p
test_has a Yes Yes p = p
