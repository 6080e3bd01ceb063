-- Lines that are kept as their forms, their numbers and their pairs.
use Rattle.std.proofs.Common.{◌≡◌, ◌∙◌, refl, ap, ℕ, suc, ◌<◌, ◌≤◌, Bool, true, false}
use Rattle.std.proofs.Common.{if◌then◌else◌, List, [], ◌∷◌, ◌++◌, take, drop, length, get_or}
use Rattle.std.proofs.Common.{nat_le, arith, take_all, length-append}
use Rattle.std.proofs.Props.{props}
use Rattle.std.proofs.lemmas.Bool.{le-leb, lt-leb, leb-true}
use Rattle.std.proofs.lemmas.List.{drop_all, take-append-le, drop-append-le}
use Rattle.bw_model.proofs.BitsLemmas.{both}
use Rattle.bw_cert_text.specs.declared.stored_form.StoredForm.{StoredForm}
use Rattle.bw_cert_text.specs.declared.stored_form.StoredForm.TheVariants as form
use Rattle.bw_cert_text.specs.declared.stored_form.KeptRegister.{KeptRegister}
use Rattle.bw_cert_text.specs.declared.lines.BodyLine.{BodyLine}
use Rattle.bw_cert_text.specs.declared.lines.EdgeProducts.{EdgeProducts}
use Rattle.bw_cert_text.specs.declared.lines.Entry.TheVariants as said
use Rattle.bw_cert_text.specs.declared.lines.Keep.{Keep}
use Rattle.bw_cert_text.specs.StoredLines.{entry_of, size, pairs_of, line_of, is_there, lines_of}
use Rattle.bw_cert_text.specs.StoredLines.{are_all}

-- as many lines as forms
pub lines-count : (forms : List StoredForm) (numbers : List ℕ) (pairs : List EdgeProducts) → are_all forms numbers pairs ≡ true → length forms ≡ length (lines_of forms numbers pairs)
unfolding lines_of are_all
lines-count [] numbers pairs all = refl
lines-count (form ∷ forms) numbers pairs all =
    let parts = both (is_there form numbers pairs) _ all in
    rw parts.0 (ap suc (lines-count forms _ _ parts.1))

module _ (form : StoredForm) (numbers more : List ℕ) (pairs others : List EdgeProducts) where
  abbrev own : List ℕ
  own = take (size form) numbers

  long : is_there form numbers pairs ≡ true → size form ≤ length numbers
  long there = leb-true _ _ (both (nat_le (size form) (length numbers)) _ there).0

  wide : is_there form numbers pairs ≡ true → pairs_of form own ≤ length pairs
  wide there = leb-true _ _ (both (nat_le (size form) (length numbers)) _ there).1

  -- what is there stays there when more follows
  there-more : is_there form numbers pairs ≡ true → is_there form (numbers ++ more) (pairs ++ others) ≡ true
  there-more there =
      rw (
        take-append-le (size form) numbers more (long there),
        le-leb (size form) (length (numbers ++ more)) (omega (arith, long there, length-append numbers more)),
        le-leb (pairs_of form own) (length (pairs ++ others)) (omega (arith, wide there, length-append pairs others)),
      ) refl

-- a line alone
alone : (form : StoredForm) (more : List ℕ) (others : List EdgeProducts) → length more ≡ size form → length others ≡ pairs_of form more →
    (are_all (form ∷ []) more others ≡ true) × (lines_of (form ∷ []) more others ≡ line_of form more others ∷ [])
unfolding lines_of are_all
alone form more others size_is pairs_are =
    let all = take_all (size form) more (omega (arith, size_is)) in
    let none = drop_all (size form) more (omega (arith, size_is)) in
    let all_pairs = take_all (pairs_of form more) others (omega (arith, pairs_are)) in
    let no_pairs = drop_all (pairs_of form more) others (omega (arith, pairs_are)) in
    let long = le-leb (size form) (length more) (omega (arith, size_is)) in
    let wide = le-leb (pairs_of form more) (length others) (omega (arith, pairs_are)) in
    (rw (all, none, no_pairs, long, wide) refl, rw (all, all_pairs, long, wide) refl)

-- one line more
pub one_more : (forms : List StoredForm) (numbers more : List ℕ) (pairs others : List EdgeProducts) (form : StoredForm) → are_all forms numbers pairs ≡ true →
    length more ≡ size form → length others ≡ pairs_of form more →
    (are_all (forms ++ form ∷ []) (numbers ++ more) (pairs ++ others) ≡ true)
    × (lines_of (forms ++ form ∷ []) (numbers ++ more) (pairs ++ others) ≡ lines_of forms numbers pairs ++ line_of form more others ∷ [])
unfolding lines_of are_all
one_more [] [] more [] others form all size_is pairs_are = alone form more others size_is pairs_are
one_more (first ∷ forms) numbers more pairs others form all size_is pairs_are =
    let parts = both (is_there first numbers pairs) _ all in
    let here = there-more first numbers more pairs others parts.0 in
    let lies = long first numbers more pairs others parts.0 in
    let paired = wide first numbers more pairs others parts.0 in
    let own : List ℕ = take (size first) numbers in
    let further = one_more forms (drop (size first) numbers) more (drop (pairs_of first own) pairs) others form parts.1 size_is pairs_are in
    let kept = take-append-le (size first) numbers more lies in
    let left = drop-append-le (size first) numbers more lies in
    let kept_pairs = take-append-le (pairs_of first own) pairs others paired in
    let left_pairs = drop-append-le (pairs_of first own) pairs others paired in
    (rw (here, kept, left, left_pairs) further.0, rw (here, parts.0, kept, left, kept_pairs, left_pairs) (ap (λ (lines : List BodyLine). line_of first own (take (pairs_of first own) pairs) ∷ lines) further.1))
one_more [] _ more _ others form all size_is pairs_are = absurd (cc all)

-- the first line
module _ (forms rest : List StoredForm) (numbers : List ℕ) (pairs : List EdgeProducts) (form : StoredForm) (first : forms ≡ form ∷ rest) where
  abbrev its : List ℕ
  its = take (size form) numbers

  abbrev found : Bool → List BodyLine
  found there = if there then (line_of form its (take (pairs_of form its) pairs) ∷ lines_of rest (drop (size form) numbers) (drop (pairs_of form its) pairs)) else []

  by_first : (there : Bool) → is_there form numbers pairs ≡ there → lines_of forms numbers pairs ≡ found there
  unfolding lines_of
  by_first there is = ap (λ (forms : List StoredForm). lines_of forms numbers pairs) first ∙ ap found is

  pub too_short : length numbers < size form → lines_of forms numbers pairs ≡ []
  too_short short = by_first false (rw (lt-leb (size form) (length numbers) short) refl)

  pub too_few : size form ≤ length numbers → length pairs < pairs_of form its → lines_of forms numbers pairs ≡ []
  too_few long few = by_first false (rw (le-leb (size form) (length numbers) long, lt-leb (pairs_of form its) (length pairs) few) refl)

  pub line_there : size form ≤ length numbers → pairs_of form its ≤ length pairs → lines_of forms numbers pairs ≡ found true
  line_there long wide = by_first true (rw (le-leb (size form) (length numbers) long, le-leb (pairs_of form its) (length pairs) wide) refl)

pub no_forms : (forms : List StoredForm) (numbers : List ℕ) (pairs : List EdgeProducts) → length forms ≡ 0 → lines_of forms numbers pairs ≡ []
unfolding lines_of
no_forms [] numbers pairs none = refl
no_forms (form ∷ forms) numbers pairs none = absurd (omega (arith, none))

-- a line KEEP, of which the register is below 64
pub keep_read : (r : KeptRegister) (numbers : List ℕ) (pairs : List EdgeProducts) (below : r.register < 64) → length numbers ≡ 3 →
    said.Keep (record { register = r.register; node = get_or numbers 0 0; through = get_or numbers 1 0; edges = pairs; in_range = below }) ≡ entry_of (form.Keep r) numbers pairs
keep_read r (a ∷ b ∷ c ∷ []) pairs below three =
    let one : IsProp (r.register < 64) = hlevel props in
    ap (λ (h : r.register < 64). said.Keep (record { register = r.register; node = a; through = b; edges = pairs; in_range = h })) (one below r.in_range)
keep_read r _ pairs below three = absurd (omega (arith, three))

pub keep_kept : (keep : Keep) (line count : ℕ) (pairs : List EdgeProducts) (below : keep.register < 64) → pairs ≡ keep.edges →
    line_of (form.Keep (record { register = keep.register; in_range = below })) (line ∷ keep.node ∷ keep.through ∷ count ∷ []) pairs ≡ record { line = line; entry = said.Keep keep }
keep_kept keep line count pairs below same =
    let one : IsProp (keep.register < 64) = hlevel props in
    ap (λ (h : keep.register < 64). record { line = line; entry = said.Keep (record { register = keep.register; node = keep.node; through = keep.through; edges = pairs; in_range = h }) }) (one below keep.in_range)
    ∙ ap (λ (edges : List EdgeProducts). record { line = line; entry = said.Keep (record { register = keep.register; node = keep.node; through = keep.through; edges = edges; in_range = keep.in_range }) }) same
