-- What is seen of values and one more.
use Rattle.std.proofs.Common.{◌≡◌, ◌∙◌, refl, sym, subst, ℤ, ◌≤ℤ◌, Bool, true, false, List, [], ◌∷◌, ◌++◌, Some, None, Contains, arith, ◌||◌, int_lt, cond}
use Rattle.std.specs.List.{list_any}
use Rattle.std.specs.Int.{int_min, int_max}
use Rattle.std.proofs.lemmas.Int.{ints, clamps}
use Rattle.std.proofs.lemmas.List.Elements.{All-push, All-weaker, Contains-push, Contains-append_left}
use Rattle.std.proofs.lemmas.List.Folds.{list_any-append}
use Rattle.bw_model.specs.Row.{Value}
use Rattle.bw_model.specs.Truth.{is_null}
use Rattle.bw_encode.specs.Seen.{IsSeenOf, IsWithin}
use Rattle.bw_encode.specs.declared.seen.Seen.{Seen}

pub null_more : (values : List Value) (s : Seen) → IsSeenOf values s → IsSeenOf (values ++ None ∷ []) (record { lo = s.lo; hi = s.hi; has_number = s.has_number; has_null = true })
null_more values s seen = record {
  bounds = record {
    within = All-push (IsWithin s.lo s.hi) values None seen.bounds.within tt;
    some = λ h. let both = seen.bounds.some h in (Contains-append_left values (None ∷ []) (Some s.lo) both.0, Contains-append_left values (None ∷ []) (Some s.hi) both.1);
    none = λ h. let no = seen.bounds.none h in (All-push (λ value. value ≡ None) values None no.0 refl, no.1, no.2);
  };
  null = sym (list_any-append is_null values (None ∷ []) ∙ any_true (list_any is_null values));
}
  where
    any_true : (b : Bool) → b || true ≡ true
    any_true true = refl
    any_true false = refl

same_null : (values : List Value) (n : ℤ) → list_any is_null (values ++ Some n ∷ []) ≡ list_any is_null values
same_null values n = list_any-append is_null values (Some n ∷ []) ∙ any_false (list_any is_null values)
  where
    any_false : (b : Bool) → b || false ≡ b
    any_false true = refl
    any_false false = refl

pub first_number : (values : List Value) (s : Seen) (n : ℤ) → s.has_number ≡ false → IsSeenOf values s
    → IsSeenOf (values ++ Some n ∷ []) (record { lo = n; hi = n; has_number = true; has_null = s.has_null })
first_number values s n first seen = record {
  bounds = record {
    within = All-push (IsWithin n n) values (Some n) (All-weaker (λ value. value ≡ None) (IsWithin n n) (λ value none. subst (IsWithin n n) (sym none) tt) values (seen.bounds.none first).0)
        (omega (arith, ints), omega (arith, ints));
    some = λ h. (Contains-push values (Some n), Contains-push values (Some n));
    none = λ h. absurd (cc h);
  };
  null = seen.null ∙ sym (same_null values n);
}

wider : (lo hi low high : ℤ) → low ≤ℤ lo → hi ≤ℤ high → (value : Value) → IsWithin lo hi value → IsWithin low high value
wider lo hi low high a b None h = tt
wider lo hi low high a b (Some n) h = let l = h.0 in let r = h.1 in (omega (arith, ints), omega (arith, ints))

lower : (values : List Value) (m n : ℤ) → Contains values (Some m) → Contains (values ++ Some n ∷ []) (Some (int_min m n))
lower values m n has = by (int_lt n m)
  where
    by : (b : Bool) → Contains (values ++ Some n ∷ []) (Some (cond b n m))
    by true = Contains-push values (Some n)
    by false = Contains-append_left values (Some n ∷ []) (Some m) has

upper : (values : List Value) (m n : ℤ) → Contains values (Some m) → Contains (values ++ Some n ∷ []) (Some (int_max m n))
upper values m n has = by (int_lt n m)
  where
    by : (b : Bool) → Contains (values ++ Some n ∷ []) (Some (cond b m n))
    by true = Contains-append_left values (Some n ∷ []) (Some m) has
    by false = Contains-push values (Some n)

pub next_number : (values : List Value) (s : Seen) (n : ℤ) → s.has_number ≡ true → IsSeenOf values s
    → IsSeenOf (values ++ Some n ∷ []) (record { lo = int_min s.lo n; hi = int_max s.hi n; has_number = s.has_number; has_null = s.has_null })
next_number values s n more seen = let both = seen.bounds.some more in record {
  bounds = record {
    within = All-push (IsWithin (int_min s.lo n) (int_max s.hi n)) values (Some n)
        (All-weaker (IsWithin s.lo s.hi) _ (wider s.lo s.hi (int_min s.lo n) (int_max s.hi n) (omega (arith, ints, clamps)) (omega (arith, ints, clamps))) values seen.bounds.within)
        (omega (arith, ints, clamps), omega (arith, ints, clamps));
    some = λ h. (lower values s.lo n both.0, upper values s.hi n both.1);
    none = λ h. absurd (cc (h, more));
  };
  null = seen.null ∙ sym (same_null values n);
}
