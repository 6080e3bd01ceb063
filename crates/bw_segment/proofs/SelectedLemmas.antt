-- What stands in the lanes that are selected.
use Rattle.std.proofs.Common.{◌≡◌, ◌∙◌, refl, sym, ap, ap₂, ℕ, ◌+◌, ◌*◌, ◌<◌, ◌≤◌, Bool, true}
use Rattle.std.proofs.Common.{false, not, cond, ◌&&◌, ◌||◌, List, [], ◌∷◌, ◌++◌, map, filter}
use Rattle.std.proofs.Common.{length, length-take, take, take_all, drop, get_or, count_by, sum}
use Rattle.std.proofs.Common.{eq-eqb, arith}
use Rattle.std.specs.List.{list_all, list_any, AllByRecursion}
use Rattle.std.proofs.lemmas.List.Sums.{sum_by-cons, sum_by-append}
use lib.Lanes.{zip2}
use Rattle.bw_lanes.specs.Lanes.{bits_from_least, lanes_of_words}
use Rattle.bw_lanes.proofs.WordLemmas.{lanes_more, length-first, before_and_part, part_is}
use Rattle.bw_lanes.proofs.WordLemmas.{zero_bits}
use Rattle.bw_model.specs.Selection.{selected_items}
use Rattle.bw_model.proofs.GroupLemmas.{selected_items-append}

selected_items-cons : (lane : Bool) (lanes : List Bool) (item : ℕ) (items : List ℕ) → selected_items (lane ∷ lanes) (item ∷ items) ≡ cond lane (item ∷ selected_items lanes items) (selected_items lanes items)
selected_items-cons true lanes item items = refl
selected_items-cons false lanes item items = refl

-- the items in the lanes that are selected and pass a test of a part of them
pub selected_where : {A : Type 0} (test : A → Bool) (f : ℕ → A) (lanes : List Bool) (items : List ℕ)
    → selected_items (zip2 (λ lane x. lane && test x) lanes (map f items)) items ≡ filter (λ n. test (f n)) (selected_items lanes items)
selected_where test f [] items = refl
selected_where test f (lane ∷ lanes) [] = refl
selected_where test f (true ∷ lanes) (item ∷ items) =
    selected_items-cons (test (f item)) _ item items ∙ ap (λ l. cond (test (f item)) (item ∷ l) l) (selected_where test f lanes items)
selected_where test f (false ∷ lanes) (item ∷ items) = selected_where test f lanes items

-- whether one of the items that are selected passes a test
pub any_selected : (test : ℕ → Bool) (lanes : List Bool) (items : List ℕ) → list_any (λ lane. lane) (zip2 (λ a b. a && b) lanes (map test items)) ≡ list_any test (selected_items lanes items)
any_selected test [] items = refl
any_selected test (lane ∷ lanes) [] = refl
any_selected test (true ∷ lanes) (item ∷ items) = ap (λ b. test item || b) (any_selected test lanes items)
any_selected test (false ∷ lanes) (item ∷ items) = any_selected test lanes items

-- how many these are
pub count_both : (p : ℕ → Bool) (lanes : List Bool) (items : List ℕ) → count_by (λ lane. lane) (zip2 (λ a b. a && b) lanes (map p items)) ≡ count_by p (selected_items lanes items)
count_both p [] items = refl
count_both p (lane ∷ lanes) [] = refl
count_both p (true ∷ lanes) (item ∷ items) =
    sum_by-cons (λ b. cond b 1 0) (p item) (zip2 (λ a b. a && b) lanes (map p items)) ∙ ap (λ k. cond (p item) 1 0 + k) (count_both p lanes items) ∙ sym (sum_by-cons (λ x. cond (p x) 1 0) item (selected_items lanes items))
count_both p (false ∷ lanes) (item ∷ items) =
    sum_by-cons (λ b. cond b 1 0) false (zip2 (λ a b. a && b) lanes (map p items)) ∙ omega (arith, count_both p lanes items)

-- how many are selected
pub count_selected : {A : Type 0} (lanes : List Bool) (items : List A) → length lanes ≤ length items → count_by (λ lane. lane) lanes ≡ length (selected_items lanes items)
count_selected [] items le = refl
count_selected (lane ∷ lanes) [] le = absurd (omega arith)
count_selected (true ∷ lanes) (item ∷ items) le = sum_by-cons (λ b. cond b 1 0) true lanes ∙ omega (arith, count_selected lanes items (omega arith))
count_selected (false ∷ lanes) (item ∷ items) le = sum_by-cons (λ b. cond b 1 0) false lanes ∙ omega (arith, count_selected lanes items (omega arith))

-- there is none
abbrev pub is_none : List ℕ → Bool
is_none [] = true
is_none (x ∷ xs) = false

-- none is selected if no lane is 1
pub none_selected : (lanes : List Bool) (items : List ℕ) → length lanes ≤ length items → list_all not lanes ≡ is_none (selected_items lanes items)
none_selected [] items le = refl
none_selected (lane ∷ lanes) [] le = absurd (omega arith)
none_selected (true ∷ lanes) (item ∷ items) le = refl
none_selected (false ∷ lanes) (item ∷ items) le = none_selected lanes items (omega arith)

-- what holds of all holds of those that are selected
pub all_selected : {A : Type 0} (P : A → Type 0) (lanes : List Bool) (items : List A) → AllByRecursion P items → AllByRecursion P (selected_items lanes items)
all_selected P [] items all = tt
all_selected P (lane ∷ lanes) [] all = tt
all_selected P (true ∷ lanes) (item ∷ items) all = (all.0, all_selected P lanes items all.1)
all_selected P (false ∷ lanes) (item ∷ items) all = all_selected P lanes items all.1

-- of no lanes nothing is selected
none_summed : (lanes : List Bool) (items : List ℕ) → list_all not lanes ≡ true → sum (selected_items lanes items) ≡ 0
none_summed [] items none = refl
none_summed (lane ∷ lanes) [] none = refl
none_summed (true ∷ lanes) (item ∷ items) none = cc
none_summed (false ∷ lanes) (item ∷ items) none = none_summed lanes items none

pub no_bits : (n : ℕ) (items : List ℕ) → n ≡ 0 → sum (selected_items (bits_from_least 64 n) items) ≡ 0
no_bits n items none = none_summed (bits_from_least 64 n) items (sym (zero_bits 64 n (omega arith)) ∙ eq-eqb n 0 none)

-- the sum of the items that the first words pick, and of those that one more word picks
abbrev pub sum_to : ℕ → List ℕ → List ℕ → ℕ
sum_to word words items = sum (selected_items (lanes_of_words (take word words)) (take (64 * word) items))

pub word_more : (word : ℕ) (words items : List ℕ) → length words ≡ 8 → length items ≡ 512 → word < 8
    → sum_to (word + 1) words items ≡ sum_to word words items + sum (selected_items (bits_from_least 64 (get_or words word 0)) (take 64 (drop (64 * word) items)))
word_more word words items eight long lt =
    let front = lanes_of_words (take word words) in
    let before = take (64 * word) items in
    let part = take 64 (drop (64 * word) items) in
    ap₂ (λ l m. sum (selected_items l m)) (lanes_more word words eight lt) (before_and_part word items lt ∙ ap (λ l. before ++ l) (part_is word items lt))
    ∙ ap sum (selected_items-append front _ before part (omega (arith, length-first word words eight (omega arith), length-take (64 * word) items))) ∙ sum_by-append (λ n. n) (selected_items front before) _

pub words_summed : (word : ℕ) (words items : List ℕ) → length words ≡ 8 → length items ≡ 512 → 8 ≤ word → sum_to word words items ≡ sum (selected_items (lanes_of_words words) items)
words_summed word words items eight long le = ap₂ (λ l m. sum (selected_items (lanes_of_words l) m)) (take_all word words (omega arith)) (take_all (64 * word) items (omega arith))
