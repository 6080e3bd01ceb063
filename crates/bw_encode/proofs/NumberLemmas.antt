-- Numbers in decimal are read as themselves.
use Rattle.std.proofs.Common.{◌≡◌, refl, ap, sym, ◌∙◌, ◌-ℤ◌, ℕ, ℤ, pos, negsuc, FitsSigned, suc, ◌^◌, ◌<◌}
use Rattle.std.proofs.Common.{◌*◌, ◌-◌, ◌==◌, ◌||◌, ◌++◌, negsuc, not, zero, fold, nat_le, nat_lt, length-append, length-take}
use Rattle.std.proofs.Common.{◌≤◌, true, List, [], ◌∷◌, length, Some, None, Option, arith, w64, subst, false, take, get_or, map, All, Bool, ◌+◌, ◌≤ℤ◌, ◌<ℤ◌, int_le, int_lt, ◌&&◌, Contains}
use Rattle.std.specs.Char.{is_ascii_digit}
use Rattle.std.specs.Fmt.{decimal, signed_decimal}
use Rattle.std.specs.List.{list_all}
use Rattle.std.proofs.lemmas.Bool.{lt-ltb, le-leb, leb-true, ne_eqb, and_parts}
use borrow.Author.Tests.{eqb-true, ltb-true}
use Rattle.std.proofs.lemmas.Int.{ints}
use Rattle.std.proofs.lemmas.Fmt.{decimal-digits_value, first_decimal}
use Rattle.std.proofs.lemmas.Str.Parse.{IsNumeralModel, numerals_by_fold, tells_all_ascii_digits}
use Rattle.bw_text.specs.Number as number
use Rattle.bw_text.proofs.DecimalLemmas as decimals
use Rattle.bw_model.specs.SchemaText.{bound_of, signed_digits}
use Rattle.std.proofs.lemmas.List.Elements.{All-head, All-nil, All-tail, All-get_or, All-push, All-contains}
use Rattle.std.proofs.lemmas.List.{get_or-map, get_or-take, length-map, map-append, take-map}
use Rattle.std.proofs.Math.Seq.{get_or-append_seam, take-append_seam}
use Rattle.bw_model.proofs.SchemaLemmas.{ordered, narrow}
use Rattle.bw_model.specs.SchemaText.{is_range}
use Rattle.bw_encode.specs.declared.seen.Seen.{Seen}
use Rattle.bw_encode.specs.ColumnFields.{AreStored}
use Rattle.bw_encode.specs.Number.{Spells, FitsValue, starts_number, starts_with_zero, value_text}
use Rattle.bw_encode.specs.Column.{AreNear, AreNumbers, AreTexts}
use Rattle.bw_encode.specs.Seen.{AreBounds, IsSeenOf, IsWithin}

positive_spells : (n : ℕ) (digits : List ℕ) → n < 2 ^ 63 → decimals.Spells n digits → bound_of digits ≡ Some (pos n)
unfolding bound_of number.number_of
positive_spells n [] lt spells = absurd (omega (arith, spells.nonempty))
positive_spells n (d ∷ digits) lt spells =
    let here = and_parts (is_ascii_digit d) (list_all is_ascii_digit digits) spells.all in
    let low = and_parts _ _ here.0 in
    let above : 48 ≤ d = leb-true 48 d low.0 in
    rw (ne_eqb d 45 (λ e. absurd (omega arith)), spells.all, spells.value, lt-ltb n (2 ^ 63) lt) refl

below_zero : (n : ℕ) → pos 0 -ℤ pos (suc n) ≡ negsuc n
below_zero n = omega (arith, ints)

negative_spells : (n : ℕ) (digits : List ℕ) → suc n ≤ 2 ^ 63 → decimals.Spells (suc n) digits → bound_of (45 ∷ digits) ≡ Some (negsuc n)
unfolding bound_of number.number_of
negative_spells n [] le spells = absurd (omega (arith, spells.nonempty))
negative_spells n (d ∷ digits) le spells = rw (spells.all, spells.value, le-leb (suc n) (2 ^ 63) le) (ap Some (below_zero n))

pub bound_of-signed_decimal : (z : ℤ) → FitsSigned w64 z → bound_of (signed_decimal z) ≡ Some z
bound_of-signed_decimal (pos n) fits = let lt : n < 2 ^ 63 = omega (arith, ints) in positive_spells n (decimal n) lt (decimals.decimal_spells n (omega arith))
bound_of-signed_decimal (negsuc n) fits = let le : suc n ≤ 2 ^ 63 = omega (arith, ints) in negative_spells n (decimal (suc n)) le (decimals.decimal_spells (suc n) (omega arith))

-- a field spells the value that is read from it, and no other
pub bound_of-nothing : bound_of [] ≡ None
unfolding bound_of
bound_of-nothing = refl

pub spelled_is_read : (field : List ℕ) (value : Option ℤ) → Spells field value → value ≡ bound_of field
spelled_is_read field None spells = sym (subst (λ text. bound_of text ≡ None) spells.text bound_of-nothing)
spelled_is_read field (Some n) spells = sym (subst (λ text. bound_of text ≡ Some n) spells.text (bound_of-signed_decimal n spells.fits))

-- digits without a needless zero are those of their value
digits_model : IsNumeralModel (λ ds. list_all is_ascii_digit ds ≡ true) number.digits_value
unfolding number.digits_value
digits_model = numerals_by_fold (λ ds. list_all is_ascii_digit ds ≡ true) tells_all_ascii_digits (λ n ds. fold (λ (m digit : ℕ). 10 * m + (digit - 48)) n ds)
    (record { empty = λ n. refl; more = λ n c cs in'. ap (λ m. fold (λ (m digit : ℕ). 10 * m + (digit - 48)) m cs) (omega arith) })

plain_digits : (d : ℕ) (ds : List ℕ) → list_all is_ascii_digit (d ∷ ds) ≡ true → (d ≡ 48 → length (d ∷ ds) ≡ 1) → number.digits_value (d ∷ ds) ≤ 2 ^ 63 → decimal (number.digits_value (d ∷ ds)) ≡ d ∷ ds
plain_digits d ds all lead small = decimal-digits_value digits_model (d ∷ ds) all (omega arith) lead (omega arith)

zero_text : decimal 0 ≡ 48 ∷ []
unfolding number.digits_value
zero_text = plain_digits 48 [] refl (λ e. refl) (omega arith)

positive_text : (text : List ℕ) (n : ℤ) → not (starts_with_zero text) || (length text == 1) ≡ true → signed_digits false text ≡ Some n → signed_decimal n ≡ text
unfolding number.number_of
positive_text [] n plain read = absurd (cc read)
positive_text (d ∷ ds) n plain read = by (list_all is_ascii_digit (d ∷ ds)) refl (nat_lt (number.digits_value (d ∷ ds)) (2 ^ 63)) refl
  where
    by : (a : Bool) → list_all is_ascii_digit (d ∷ ds) ≡ a → (l : Bool) → nat_lt (number.digits_value (d ∷ ds)) (2 ^ 63) ≡ l → signed_decimal n ≡ d ∷ ds
    by false all l low = let none = rw all at read in absurd (cc none)
    by true all false low = let none = rw (all, low) at read in absurd (cc none)
    by true all true low =
        let is : ◌≡◌ {A = Option ℤ} (Some (pos (number.digits_value (d ∷ ds)))) (Some n) = rw (all, low) at read in
        let lead : d ≡ 48 → length (d ∷ ds) ≡ 1 = λ e. eqb-true (length (d ∷ ds)) 1 (rw e at plain) in
        let less = ltb-true (number.digits_value (d ∷ ds)) (2 ^ 63) low in
        let text = plain_digits d ds all lead (omega arith) in
        let same : n ≡ pos (number.digits_value (d ∷ ds)) = cc is in
        rw same text

negative_text : (text : List ℕ) (n : ℤ) → not (starts_with_zero text) ≡ true → signed_digits true text ≡ Some n → signed_decimal n ≡ 45 ∷ text
unfolding number.number_of
negative_text [] n plain read = absurd (cc read)
negative_text (d ∷ ds) n plain read = by (list_all is_ascii_digit (d ∷ ds)) refl (nat_le (number.digits_value (d ∷ ds)) (2 ^ 63)) refl
  where
    other : d ≡ 48 → length (d ∷ ds) ≡ 1
    other e = let none = rw e at plain in absurd (cc none)

    value : (v : ℕ) → decimal v ≡ d ∷ ds → n ≡ pos 0 -ℤ pos v → signed_decimal n ≡ 45 ∷ d ∷ ds
    value zero e is = let same : 48 ∷ [] ≡ d ∷ ds = sym zero_text ∙ e in let first : d ≡ 48 = cc same in let unless = rw first at plain in absurd (cc unless)
    value (suc m) e is = rw (is, below_zero m) (ap (λ (xs : List ℕ). 45 ∷ xs) e)

    by : (a : Bool) → list_all is_ascii_digit (d ∷ ds) ≡ a → (l : Bool) → nat_le (number.digits_value (d ∷ ds)) (2 ^ 63) ≡ l → signed_decimal n ≡ 45 ∷ d ∷ ds
    by false all l low = let none = rw all at read in absurd (cc none)
    by true all false low = let none = rw (all, low) at read in absurd (cc none)
    by true all true low =
        let is : ◌≡◌ {A = Option ℤ} (Some (pos 0 -ℤ pos (number.digits_value (d ∷ ds)))) (Some n) = rw (all, low) at read in
        let less = leb-true (number.digits_value (d ∷ ds)) (2 ^ 63) low in
        value (number.digits_value (d ∷ ds)) (plain_digits d ds all other less) (sym (cc is))

-- a field that starts as a number does is the number that is read from it, in decimal
pub starts_spelled : (field : List ℕ) (n : ℤ) → starts_number field ≡ true → bound_of field ≡ Some n → signed_decimal n ≡ field
unfolding bound_of
starts_spelled [] n starts read = absurd (cc read)
starts_spelled (c ∷ cs) n starts read = by (c == 45) refl
  where
    by : (b : Bool) → (c == 45) ≡ b → signed_decimal n ≡ c ∷ cs
    by true e = let minus = eqb-true c 45 e in rw minus (negative_text cs n (rw e at starts) (rw e at read))
    by false e = positive_text (c ∷ cs) n (rw e at starts) (rw e at read)

first_digit : (n : ℕ) → 0 < n → n < 2 ^ 64 → (ds : List ℕ) → decimal n ≡ ds → (starts_with_zero ds ≡ false) × (get_or ds 0 0 == 45 ≡ false)
first_digit n some small [] e = let high = first_decimal n some small in let at : get_or (decimal n) 0 0 ≡ 0 = ap (λ (xs : List ℕ). get_or xs 0 0) e in absurd (omega arith)
first_digit n some small (d ∷ ds) e =
    let high = first_decimal n some small in
    let at : get_or (decimal n) 0 0 ≡ d = ap (λ (xs : List ℕ). get_or xs 0 0) e in
    (ne_eqb d 48 (λ e. absurd (omega arith)), ne_eqb d 45 (λ e. absurd (omega arith)))

-- a number in decimal starts so
pub decimal_starts : (n : ℤ) → FitsSigned w64 n → starts_number (signed_decimal n) ≡ true
decimal_starts (pos zero) fits = rw zero_text refl
decimal_starts (pos (suc m)) fits = let first = first_digit (suc m) (omega arith) (omega (arith, ints)) (decimal (suc m)) refl in rw (first.1, first.0) refl
decimal_starts (negsuc m) fits = let first = first_digit (suc m) (omega arith) (omega (arith, ints)) (decimal (suc m)) refl in rw first.0 refl

-- a field that isn't empty spells no value unless it is the number that is read from it, in decimal
spells_nothing : (field : List ℕ) → 0 < length field → ((n : ℤ) → FitsSigned w64 n → bound_of field ≡ Some n → signed_decimal n ≡ field → ⊥)
    → (value : Option ℤ) → Spells field value → ⊥
spells_nothing field some none None spells = let e : length {A = ℕ} [] ≡ length field = ap length spells.text in omega arith
spells_nothing field some none (Some n) spells = none n spells.fits (sym (spelled_is_read field (Some n) spells)) spells.text

pub starts_otherwise : (field : List ℕ) → 0 < length field → starts_number field ≡ false → (value : Option ℤ) → Spells field value → ⊥
starts_otherwise field some other = spells_nothing field some (λ n fits read text. let starts : starts_number field ≡ true = subst (λ xs. starts_number xs ≡ true) text (decimal_starts n fits) in cc (starts, other))

pub no_number : (field : List ℕ) → 0 < length field → bound_of field ≡ None → (value : Option ℤ) → Spells field value → ⊥
no_number field some none = spells_nothing field some (λ n fits read text. cc (read, none))

-- values that spell fields are those that are read
pub values_read : (fields : List (List ℕ)) (values : List (Option ℤ)) → All FitsValue values → map value_text values ≡ fields → values ≡ map bound_of fields
values_read fields values fit spelled = go values fit ∙ ap (map bound_of) spelled
  where
    go : (values : List (Option ℤ)) → All FitsValue values → values ≡ map bound_of (map value_text values)
    go [] fit = refl
    go (v ∷ vs) fit = rw (← spelled_is_read (value_text v) v (record { fits = All-head FitsValue v vs fit; text = refl })) (ap (λ (rest : List (Option ℤ)). v ∷ rest) (go vs (All-tail FitsValue v vs fit)))

-- a field that spells no value is in no column of numbers
pub text_among : (fields : List (List ℕ)) (row : ℕ) → row < length fields → ((value : Option ℤ) → Spells (get_or fields row []) value → ⊥) → AreTexts fields
text_among fields row lt none values numbers =
    let size : length values ≡ length fields = sym (length-map values value_text) ∙ ap length numbers.spelled in
    let within : row < length values = omega arith in
    none (get_or values row None) (record {
      fits = All-get_or FitsValue values row None within numbers.fit;
      text = sym (get_or-map value_text values row None [] within) ∙ ap (λ (xs : List (List ℕ)). get_or xs row []) numbers.spelled;
    })

-- values in a range are near each other
pub near_values : (values : List (Option ℤ)) (lo hi : ℤ) (has : Bool) → AreBounds values lo hi has → is_range lo hi ≡ true → AreNear values
unfolding is_range
near_values values lo hi has bounds range = λ l h low high.
    let a = All-contains (IsWithin lo hi) values (Some l) bounds.within low in
    let b = All-contains (IsWithin lo hi) values (Some h) bounds.within high in
    let parts = and_parts (int_le lo hi) (int_lt (hi -ℤ lo) (pos (2 ^ 63))) range in
    nearer lo hi l h a.0 b.1 (narrow_test (hi -ℤ lo) (pos (2 ^ 63)) parts.1)
  where
    narrow_test : (n m : ℤ) → int_lt n m ≡ true → n <ℤ m
    narrow_test n m e = grind (arith, ints)

    nearer : (lo hi l h : ℤ) → lo ≤ℤ l → h ≤ℤ hi → (hi -ℤ lo) <ℤ pos (2 ^ 63) → (h -ℤ l) <ℤ pos (2 ^ 63)
    nearer lo hi l h a b c = omega (arith, ints)

-- fields are no column of numbers if the numbers that are read from them are in no range
numbers_far : (fields : List (List ℕ)) (lo hi : ℤ) (has : Bool) → AreBounds (map bound_of fields) lo hi has → is_range lo hi ≡ false → AreTexts fields
unfolding is_range
numbers_far fields lo hi has bounds range values numbers = by has refl
  where
    same : values ≡ map bound_of fields
    same = values_read fields values numbers.fit numbers.spelled

    by : (b : Bool) → has ≡ b → ⊥
    by true e =
        let both = bounds.some e in
        let near = numbers.near lo hi (subst (λ xs. Contains xs (Some lo)) (sym same) both.0) (subst (λ xs. Contains xs (Some hi)) (sym same) both.1) in
        let order = All-contains (IsWithin lo hi) (map bound_of fields) (Some lo) bounds.within both.0 in
        let yes : int_le lo hi && int_lt (hi -ℤ lo) (pos (2 ^ 63)) ≡ true = rw (ordered lo hi order.1, narrow (hi -ℤ lo) (pos (2 ^ 63)) near) refl in
        cc (yes, range)
    by false e =
        let zeros = bounds.none e in
        let no : is_range (pos 0) (pos 0) ≡ false = rw (zeros.1, zeros.2) at range in
        cc no

-- stored values are those of the fields that they spell
pub stored_numbers : (values : List (Option ℤ)) (seen : Seen) → AreStored values seen → AreNumbers (map value_text values) values
stored_numbers values seen stored = record { fit = stored.fit; spelled = refl; near = near_values values seen.lo seen.hi seen.has_number stored.bounds.bounds stored.range }

pub texts_more : (values : List (Option ℤ)) (value : Option ℤ) (field : List ℕ) → value_text value ≡ field → map value_text (values ++ value ∷ []) ≡ map value_text values ++ field ∷ []
texts_more values value field text = map-append value_text values (value ∷ []) ∙ ap (λ (f : List ℕ). map value_text values ++ f ∷ []) text

-- a field that spells no value makes no column of numbers of others
pub no_numbers : (fields : List (List ℕ)) (field : List ℕ) → ((value : Option ℤ) → Spells field value → ⊥) → AreTexts (fields ++ field ∷ [])
no_numbers fields field none = text_among (fields ++ field ∷ []) (length fields) (omega (arith, length-append fields (field ∷ [])))
    (λ value spells. none value (subst (λ f. Spells f value) (get_or-append_seam fields field [] []) spells))

-- nor does one whose number is too far from theirs
pub too_far : (values : List (Option ℤ)) (value : Option ℤ) (field : List ℕ) (seen : Seen) → All FitsValue values → Spells field value → IsSeenOf (values ++ value ∷ []) seen
    → is_range seen.lo seen.hi ≡ false → AreTexts (map value_text values ++ field ∷ [])
too_far values value field seen fit spells bounds range =
    let read = values_read (map value_text values ++ field ∷ []) (values ++ value ∷ []) (All-push FitsValue values value fit spells.fits) (texts_more values value field spells.text) in
    numbers_far (map value_text values ++ field ∷ []) seen.lo seen.hi seen.has_number (subst (λ vs. AreBounds vs seen.lo seen.hi seen.has_number) read bounds.bounds) range

-- fields that are no column of numbers are none with one field more
pub still_texts : (fields : List (List ℕ)) (field : List ℕ) → AreTexts fields → AreTexts (fields ++ field ∷ [])
still_texts fields field none values numbers =
    let size : length values ≡ length (fields ++ field ∷ []) = sym (length-map values value_text) ∙ ap length numbers.spelled in
    let more = length-append fields (field ∷ []) in
    let few : length (take (length fields) values) ≡ length fields = omega (arith, length-take (length fields) values) in
    none (take (length fields) values) (record {
      fit = λ k d lt. subst FitsValue (sym (get_or-take (length fields) values k d (omega arith))) (numbers.fit k d (omega arith));
      spelled = sym (take-map value_text (length fields) values) ∙ ap (take (length fields)) numbers.spelled ∙ take-append_seam fields (field ∷ []);
      near = λ lo hi low high. numbers.near lo hi (among (Some lo) low) (among (Some hi) high);
    })
  where
    among : (value : Option ℤ) → Contains (take (length fields) values) value → Contains values value
    among value has =
        let lt = has.1 in
        let size = length-take (length fields) values in
        (has.0, omega arith, sym (get_or-take (length fields) values has.0 value (omega arith)) ∙ has.2)

pub stored_none : (seen : Seen) → IsSeenOf [] seen → AreStored [] seen
unfolding is_range
stored_none seen bounds = record { fit = All-nil FitsValue; bounds = bounds; range = by seen.has_number refl }
  where
    by : (b : Bool) → seen.has_number ≡ b → is_range seen.lo seen.hi ≡ true
    by true e = let some = bounds.bounds.some e in let lt = some.0.1 in absurd (omega arith)
    by false e = let zeros = bounds.bounds.none e in rw (zeros.1, zeros.2) refl
