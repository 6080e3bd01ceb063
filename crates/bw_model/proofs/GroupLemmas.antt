-- Groups of a table, lanes of a group, and the items whose bit is 1.
use Rattle.std.proofs.Common.{◌≡◌, ◌∙◌, refl, sym, ap, ap₂, ℕ, zero, suc, ◌+◌, ◌-◌, ◌/◌, ◌<◌, ◌≤◌}
use Rattle.std.proofs.Common.{min, Bool, true, false, cond, List, [], ◌∷◌, ◌++◌, map, filter}
use Rattle.std.proofs.Common.{length, take, drop, get_or, replicate, length-append, append_assoc}
use Rattle.std.proofs.Common.{add-one, add-zero, arith, length-drop, length-take, All}
use Rattle.std.proofs.lemmas.List.{take-append-drop, length-map, length-replicate}
use Rattle.std.proofs.lemmas.List.{get_or-append-add}
use Rattle.std.proofs.lemmas.List.Elements.{All-cons}
use Rattle.std.proofs.Math.ListN.{get_or-append}
use Rattle.std.proofs.Math.Seq.{get_or-append_seam}
use Rattle.bw_model.specs.declared.column.Column.{Column}
use Rattle.bw_model.specs.Row.{Value}
use Rattle.bw_model.specs.Groups.{group_size, groups_within, groups_of, together, lanes_of}
use Rattle.bw_model.specs.StoredCodes.{no_bits}
use Rattle.bw_model.specs.Variable.{Assignment, assignment_of, bits_of}
use Rattle.bw_model.specs.Selection.{positions_from, selected_items}

-- more groups than rows change nothing
within_enough : {A : Type 0} (m n : ℕ) (rows : List A) → length rows ≤ m → length rows ≤ n → groups_within m rows ≡ groups_within n rows
unfolding group_size
within_enough zero zero rows a b = refl
within_enough zero (suc n) [] a b = refl
within_enough (suc m) zero [] a b = refl
within_enough (suc m) (suc n) [] a b = refl
within_enough (suc m) (suc n) (row ∷ rows) a b =
    let rest = drop 512 (row ∷ rows) in
    let shorter : length rest ≡ length (row ∷ rows) - 512 = length-drop 512 (row ∷ rows) in
    ap (λ groups. take 512 (row ∷ rows) ∷ groups) (within_enough m n rest (omega arith) (omega arith))
within_enough _ _ _ a b = absurd (omega arith)

pub groups_of-nothing : {A : Type 0} → groups_of {A = A} [] ≡ []
unfolding groups_of
groups_of-nothing = refl

pub groups_of-first : {A : Type 0} (rows : List A) → 0 < length rows → groups_of rows ≡ take group_size rows ∷ groups_of (drop group_size rows)
unfolding groups_of group_size
groups_of-first [] some = absurd (omega arith)
groups_of-first (row ∷ rows) some =
    let rest = drop 512 (row ∷ rows) in
    let shorter : length rest ≡ length (row ∷ rows) - 512 = length-drop 512 (row ∷ rows) in
    ap (λ groups. take 512 (row ∷ rows) ∷ groups) (within_enough (length rows) (length rest) rest (omega arith) (omega arith))

within_table : {A : Type 0} (n : ℕ) (rows : List A) → length rows ≤ n → together (groups_within n rows) ≡ rows
unfolding group_size
within_table zero [] le = refl
within_table zero (row ∷ rows) le = absurd (omega arith)
within_table (suc n) [] le = refl
within_table (suc n) (row ∷ rows) le =
    let rest = drop 512 (row ∷ rows) in
    let shorter : length rest ≡ length (row ∷ rows) - 512 = length-drop 512 (row ∷ rows) in
    ap (λ others. take 512 (row ∷ rows) ++ others) (within_table n rest (omega arith)) ∙ take-append-drop 512 (row ∷ rows)

pub groups_of-table : {A : Type 0} (rows : List A) → together (groups_of rows) ≡ rows
unfolding groups_of
groups_of-table rows = within_table (length rows) rows (omega arith)

within_count : {A : Type 0} (n : ℕ) (rows : List A) → length rows ≤ n → length (groups_within n rows) ≡ (length rows + 511) / 512
unfolding group_size
within_count zero [] le = refl
within_count zero (row ∷ rows) le = absurd (omega arith)
within_count (suc n) [] le = refl
within_count (suc n) (row ∷ rows) le =
    let rest = drop 512 (row ∷ rows) in
    let shorter : length rest ≡ length (row ∷ rows) - 512 = length-drop 512 (row ∷ rows) in
    let others : length (groups_within n rest) ≡ (length rest + 511) / 512 = within_count n rest (omega arith) in
    omega arith

pub groups_of-count : {A : Type 0} (rows : List A) → length (groups_of rows) ≡ (length rows + 511) / 512
unfolding groups_of
groups_of-count rows = within_count (length rows) rows (omega arith)

within_sizes : {A : Type 0} (n : ℕ) (rows : List A) → All (λ (group : List A). (1 ≤ length group) × (length group ≤ 512)) (groups_within n rows)
unfolding group_size
within_sizes zero rows = λ k d lt. absurd (omega arith)
within_sizes (suc n) [] = λ k d lt. absurd (omega arith)
within_sizes {A = A} (suc n) (row ∷ rows) =
    let taken : length (take 512 (row ∷ rows)) ≡ min 512 (length (row ∷ rows)) = length-take 512 (row ∷ rows) in
    All-cons (λ (group : List A). (1 ≤ length group) × (length group ≤ 512)) (take 512 (row ∷ rows)) (groups_within n (drop 512 (row ∷ rows)))
    (omega arith, omega arith) (within_sizes n (drop 512 (row ∷ rows)))

pub groups_of-sizes : {A : Type 0} (rows : List A) → All (λ (group : List A). (1 ≤ length group) × (length group ≤ group_size)) (groups_of rows)
unfolding groups_of group_size
groups_of-sizes rows = within_sizes (length rows) rows

-- the items that pass a test are those whose bit it sets, and those at the positions of these bits
pub filter-selected : {A : Type 0} (test : A → Bool) (items : List A) → filter test items ≡ selected_items (map test items) items
filter-selected test [] = refl
filter-selected {A = A} test (item ∷ items) = go (test item) (filter-selected test items)
  where
    go : (b : Bool) → filter test items ≡ selected_items (map test items) items →
        cond b (item ∷ filter test items) (filter test items) ≡ selected_items (b ∷ map test items) (item ∷ items)
    go true later = ap (λ (rest : List A). item ∷ rest) later
    go false later = later

pub selected_items-positions : {A : Type 0} (d : A) (bits : List Bool) (before items : List A) → length bits ≤ length items →
    selected_items bits items ≡ map (λ position. get_or (before ++ items) position d) (positions_from (length before) bits)
selected_items-positions d [] before items le = refl
selected_items-positions d (bit ∷ bits) before [] le = absurd (omega arith)
selected_items-positions {A = A} d (bit ∷ bits) before (item ∷ items) le =
    let longer : length (before ++ item ∷ []) ≡ suc (length before) = length-append before (item ∷ []) ∙ add-one (length before) in
    go bit (selected_items-positions d bits (before ++ item ∷ []) items (omega arith)
    ∙ ap₂ (λ (all : List A) (first : ℕ). map (λ position. get_or all position d) (positions_from first bits)) (append_assoc before (item ∷ []) items) longer)
  where
    go : (b : Bool) → selected_items bits items ≡ map (λ position. get_or (before ++ item ∷ items) position d) (positions_from (suc (length before)) bits) →
        selected_items (b ∷ bits) (item ∷ items) ≡ map (λ position. get_or (before ++ item ∷ items) position d) (positions_from (length before) (b ∷ bits))
    go true later = ap₂ (λ (x : A) (xs : List A). x ∷ xs) (sym (get_or-append_seam before item items d)) later
    go false later = later

pub positions_from-append : (position : ℕ) (front back : List Bool) →
    positions_from position (front ++ back) ≡ positions_from position front ++ positions_from (position + length front) back
positions_from-append position [] back = ap (λ first. positions_from first back) (sym (add-zero position))
positions_from-append position (bit ∷ front) back =
    let next : suc position + length front ≡ position + suc (length front) = omega arith in
    go bit (positions_from-append (suc position) front back ∙ ap (λ first. positions_from (suc position) front ++ positions_from first back) next)
  where
    go : (b : Bool) → positions_from (suc position) (front ++ back) ≡ positions_from (suc position) front ++ positions_from (position + suc (length front)) back →
        positions_from position (b ∷ (front ++ back)) ≡ positions_from position (b ∷ front) ++ positions_from (position + suc (length front)) back
    go true later = ap (λ rest. position ∷ rest) later
    go false later = later

pub selected_items-append : {A : Type 0} (front back : List Bool) (items others : List A) → length front ≡ length items →
    selected_items (front ++ back) (items ++ others) ≡ selected_items front items ++ selected_items back others
selected_items-append [] back [] others same = refl
selected_items-append {A = A} (bit ∷ front) back (item ∷ items) others same = go bit (selected_items-append front back items others (omega arith))
  where
    go : (b : Bool) → selected_items (front ++ back) (items ++ others) ≡ selected_items front items ++ selected_items back others →
        selected_items (b ∷ (front ++ back)) (item ∷ (items ++ others)) ≡ selected_items (b ∷ front) (item ∷ items) ++ selected_items back others
    go true later = ap (λ (rest : List A). item ∷ rest) later
    go false later = later
selected_items-append _ back _ others same = absurd (omega arith)

-- lanes
pub lanes_of-length : (columns : List Column) (rows : List (List Value)) → length rows ≤ group_size → length (lanes_of columns rows) ≡ group_size
unfolding lanes_of group_size
lanes_of-length columns rows le =
    let bits : List Assignment = map (λ row. assignment_of (bits_of columns row)) rows in
    omega (arith, length-append bits (replicate (512 - length rows) no_bits), length-map rows (λ row. assignment_of (bits_of columns row)), length-replicate (512 - length rows) no_bits)

pub lanes_of-row : (columns : List Column) (rows : List (List Value)) (lane : ℕ) → lane < length rows →
    get_or (lanes_of columns rows) lane no_bits ≡ assignment_of (bits_of columns (get_or rows lane []))
unfolding lanes_of
lanes_of-row columns rows lane lt =
    let bits : List Assignment = map (λ row. assignment_of (bits_of columns row)) rows in
    get_or-append bits (replicate (group_size - length rows) no_bits) no_bits lane (omega (arith, length-map rows (λ row. assignment_of (bits_of columns row)))) ∙ row_bits rows lane lt
  where
    row_bits : (rows : List (List Value)) (lane : ℕ) → lane < length rows →
        get_or (map (λ row. assignment_of (bits_of columns row)) rows) lane no_bits ≡ assignment_of (bits_of columns (get_or rows lane []))
    row_bits [] lane lt = absurd (omega arith)
    row_bits (row ∷ rows) zero lt = refl
    row_bits (row ∷ rows) (suc lane) lt = row_bits rows lane (omega arith)

get_or-replicate : {A : Type 0} (count at : ℕ) (x : A) → get_or (replicate count x) at x ≡ x
get_or-replicate zero at x = refl
get_or-replicate (suc count) zero x = refl
get_or-replicate (suc count) (suc at) x = get_or-replicate count at x

pub lanes_of-padding : (columns : List Column) (rows : List (List Value)) (lane : ℕ) → length rows ≤ lane → get_or (lanes_of columns rows) lane no_bits ≡ no_bits
unfolding lanes_of
lanes_of-padding columns rows lane le =
    let bits : List Assignment = map (λ row. assignment_of (bits_of columns row)) rows in
    let padding : List Assignment = replicate (group_size - length rows) no_bits in
    let same : lane ≡ length bits + (lane - length bits) = omega (arith, length-map rows (λ row. assignment_of (bits_of columns row))) in
    ap (λ k. get_or (bits ++ padding) k no_bits) same ∙ get_or-append-add bits padding (lane - length bits) no_bits ∙ get_or-replicate (group_size - length rows) (lane - length bits) no_bits
