-- What is spelled is read: the groups after a table file's header.
use Rattle.std.proofs.Common.{◌≡◌, ℕ, zero, suc, ◌+◌, ◌-◌, ◌<◌, ◌≤◌, true, All, List, [], ◌∷◌, ◌++◌}
use Rattle.std.proofs.Common.{length, map, drop, Option, None, Result, Ok, refl, sym, ap, ap₂}
use Rattle.std.proofs.Common.{subst, ◌∙◌, append_assoc, add-one, length-take, length-drop, arith}
use Rattle.std.specs.List.{flat_map, list_all, range_with_len}
use Rattle.std.proofs.lemmas.List.{append-nil}
use Rattle.std.proofs.lemmas.List.Elements.{All-nil, All-cons, All-head, All-tail}
use Rattle.std.proofs.lemmas.List.Folds.{list_all-append}
use Rattle.bw_model.specs.declared.column.Column.{Column}
use Rattle.bw_model.specs.declared.fault.Fault.{Fault}
use Rattle.bw_model.specs.Column.{admits_values}
use Rattle.bw_model.specs.Groups.{group_size, groups_of, together}
use Rattle.bw_model.specs.Row.{Value}
use Rattle.bw_model.proofs.BitsLemmas.{both}
use Rattle.bw_model.proofs.GroupLemmas.{groups_of-nothing, groups_of-first, groups_of-sizes}
use Rattle.bw_model.proofs.GroupLemmas.{groups_of-table}
use Rattle.bw_segment.specs.Packing.{block_bytes, segment_bytes, rows_spelled}
use Rattle.bw_segment.specs.Meaning.{Meaning, IsGroup}
use Rattle.bw_segment.proofs.BytesLemmas.{length-block, block_is_fine, rows_of_bytes}
use Rattle.bw_file.specs.declared.layout.Layout.{Layout}
use Rattle.bw_file.specs.Blocks.{form_of, block_size, block_fault}
use Rattle.bw_file.specs.Reading.{Tail, tail, Reading, and_then, ◌>>=◌, field, NeedsEach}
use Rattle.bw_file.specs.TableReading.{sound_at, one_block, blocks, segment, group_sizes, end, body}
use Rattle.bw_file.proofs.ReaderLemmas.{group_sizes-some, group_sizes-none}
use Rattle.bw_file.proofs.ReadingLemmas.{needs_first, needs_more, needs_none}
use Rattle.bw_file.proofs.SegmentLemmas.{is_packing}
use Rattle.bw_file.proofs.SpelledHeader.{ReadsText, text_then, text_gives, field_reads}

-- the rows of one group
abbrev pub group_under : List Column → List (List Value) → Meaning
group_under columns rows = record { name = []; columns = columns; rows = rows }

-- the blocks of a group's rows
module _ (layout : Layout) (columns : List Column) (rows : List (List Value)) (group : IsGroup (group_under columns rows)) where
  abbrev block : ℕ → List ℕ
  block number = block_bytes (form_of layout) columns number rows

  block_reads : (number : ℕ) → number < length columns → ReadsText (one_block layout columns (length rows) number) (block number) (block number)
  unfolding one_block
  block_reads number there =
      let law = is_packing layout in
      let meaning = group_under columns rows in
      let p = field_reads (block_size layout columns number) (block number) (length-block (form_of layout) law meaning group number) in
      let fine : block_fault layout columns number (length rows) (block number) ≡ None = block_is_fine (form_of layout) law meaning group number there in
      let sound : ℕ → List ℕ → Reading (List ℕ) = λ (at : ℕ) (bytes : List ℕ). sound_at at layout columns (length rows) number bytes (block_fault layout columns number (length rows) bytes) in
      record {
        reads = λ at rest.
            ap (λ (r : Result (List ℕ × Tail) Fault). and_then r (sound at)) (p.reads at rest)
            ∙ ap (λ (fault : Option ℕ). sound_at at layout columns (length rows) number (block number) fault (tail (at + length (block number)) rest)) fine;
        needs = λ at. needs_first (field (block_size layout columns number)) (sound at) at (block number) (p.needs at);
      }

  blocks_read : (more number : ℕ) (before : List ℕ) → number + more ≤ length columns
      → ReadsText (blocks layout columns (length rows) number more before) (flat_map block (range_with_len number more)) (before ++ flat_map block (range_with_len number more))
  unfolding blocks
  blocks_read zero number before within = record {
    reads = λ at rest.
        let there : at ≡ at + 0 = omega arith in
        let same : before ≡ before ++ [] = sym (append-nil before) in
        rw (← there, ← same) refl;
    needs = λ at. needs_none (blocks layout columns (length rows) number 0 before) at;
  }
  blocks_read (suc more) number before within =
      let next = blocks_read more (number + 1) (before ++ block number) (omega (arith, within)) in
      subst (ReadsText (blocks layout columns (length rows) number (suc more) before) (flat_map block (range_with_len number (suc more))))
      (append_assoc before (block number) (flat_map block (range_with_len (number + 1) more)))
      (text_then (one_block layout columns (length rows) number) (λ bytes. blocks layout columns (length rows) (suc number) more (before ++ bytes)) (block number)
      (flat_map block (range_with_len (number + 1) more)) (block number) ((before ++ block number) ++ flat_map block (range_with_len (number + 1) more))
      (block_reads number (omega (arith, within)))
      (subst (λ (n : ℕ). ReadsText (blocks layout columns (length rows) n more (before ++ block number)) (flat_map block (range_with_len (number + 1) more)) ((before ++ block number) ++ flat_map block (range_with_len (number + 1) more))) (add-one number) next))

  pub segment_reads : ReadsText (segment layout columns (length rows)) (segment_bytes (form_of layout) columns rows) rows
  unfolding segment segment_bytes
  segment_reads =
      let text = flat_map block (range_with_len 0 (length columns)) in
      subst (ReadsText (segment layout columns (length rows)) text) (rows_of_bytes (form_of layout) (is_packing layout) (group_under columns rows) group)
      (text_gives (blocks layout columns (length rows) 0 (length columns) []) (λ bytes. rows_spelled (form_of layout) columns (length rows) bytes) text text
      (blocks_read (length columns) 0 [] (omega arith)))

-- the sizes of groups, and what is said of each of them
abbrev pub HasSize : List (List Value) → Type 0
HasSize group = (1 ≤ length group) × (length group ≤ group_size)

abbrev pub Admits : List Column → List (List Value) → Type 0
Admits columns group = list_all (admits_values columns) group ≡ true

-- the groups are read, and each of their bytes is needed
record ReadsGroups (layout : Layout) (columns : List Column) (groups before : List (List (List Value))) (at : ℕ) : Type 0 where
  left : Tail
  reads : body layout columns (map length groups) before (tail at (flat_map (segment_bytes (form_of layout) columns) groups)) ≡ Ok (before ++ groups, left)
  needs : NeedsEach (body layout columns (map length groups) before) at (flat_map (segment_bytes (form_of layout) columns) groups)

body_reads : (layout : Layout) (columns : List Column) (groups before : List (List (List Value))) (at : ℕ) → All HasSize groups → All (Admits columns) groups
    → ReadsGroups layout columns groups before at
unfolding body end
body_reads layout columns [] before at sized admitted = record { left = tail at []; reads = rw append-nil refl; needs = needs_none (body layout columns [] before) at }
body_reads layout columns (group ∷ groups) before at sized admitted =
    let size = All-head HasSize group groups sized in
    let is : IsGroup (group_under columns group) = record { nonempty = size.0; within_limit = size.1; admitted = All-head (Admits columns) group groups admitted } in
    let text = segment_bytes (form_of layout) columns group in
    let others = flat_map (segment_bytes (form_of layout) columns) groups in
    let next : List (List Value) → Reading (List (List (List Value))) = λ (group : List (List Value)). body layout columns (map length groups) (before ++ group ∷ []) in
    let r = body_reads layout columns groups (before ++ group ∷ []) (at + length text) (All-tail HasSize group groups sized) (All-tail (Admits columns) group groups admitted) in
    let first = segment_reads layout columns group is in
    let on : (rest : List ℕ) → (segment layout columns (length group) >>= next) (tail at (text ++ rest)) ≡ next group (tail (at + length text) rest) =
    λ rest. ap (λ (x : Result (List (List Value) × Tail) Fault). and_then x next) (first.reads at rest) in
    record {
      left = r.left;
      reads = on others ∙ r.reads ∙ ap (λ (found : List (List (List Value))). Ok (found, r.left)) (append_assoc before (group ∷ []) groups);
      needs = needs_more (segment layout columns (length group) >>= next) (next group) at (at + length text) text others refl
          (needs_first (segment layout columns (length group)) next at text (first.needs at)) on r.needs;
    }

-- rows that columns admit are admitted group by group
pub each_admitted : (columns : List Column) (groups : List (List (List Value))) → list_all (admits_values columns) (together groups) ≡ true → All (Admits columns) groups
each_admitted columns [] all = All-nil (Admits columns)
each_admitted columns (group ∷ groups) all =
    let p = both (list_all (admits_values columns) group) (list_all (admits_values columns) (together groups)) (sym (list_all-append (admits_values columns) group (together groups)) ∙ all) in
    All-cons (Admits columns) group groups p.0 (each_admitted columns groups p.1)

-- the sizes of a table's groups
sizes_within : (most : ℕ) (rows : List (List Value)) → length rows ≤ most → group_sizes (length rows) ≡ map length (groups_of rows)
unfolding group_size
sizes_within most [] few = group_sizes-none ∙ sym (ap (map length) (groups_of-nothing {A = List Value}))
sizes_within zero (row ∷ rows) few = absurd (omega (arith, few))
sizes_within (suc most) (row ∷ rows) few =
    let all = row ∷ rows in
    let some : 0 < length all = omega arith in
    let rest : length (drop group_size all) ≡ length all - group_size = length-drop group_size all in
    let fewer : length (drop group_size all) ≤ most = omega (arith, rest, few) in
    group_sizes-some (length all) some
    ∙ ap₂ (λ (size : ℕ) (sizes : List ℕ). size ∷ sizes) (sym (length-take group_size all)) (ap group_sizes (sym rest) ∙ sizes_within most (drop group_size all) fewer)
    ∙ sym (ap (map length) (groups_of-first all some))

pub sizes_of_groups : (rows : List (List Value)) → group_sizes (length rows) ≡ map length (groups_of rows)
sizes_of_groups rows = sizes_within (length rows) rows (omega arith)

-- what follows a header is read as the groups of its rows, and each byte of it is needed
pub groups_read : (layout : Layout) (columns : List Column) (rows : List (List Value)) (at : ℕ) → list_all (admits_values columns) rows ≡ true
    → let text : List ℕ = flat_map (segment_bytes (form_of layout) columns) (groups_of rows) in
    (t : Tail) × (body layout columns (group_sizes (length rows)) [] (tail at text) ≡ Ok (groups_of rows, t)) × NeedsEach (body layout columns (group_sizes (length rows)) []) at text
groups_read layout columns rows at admitted =
    let each = each_admitted columns (groups_of rows) (ap (list_all (admits_values columns)) (groups_of-table rows) ∙ admitted) in
    let r = body_reads layout columns (groups_of rows) [] at (groups_of-sizes rows) each in
    rw (sizes_of_groups rows) (r.left, r.reads, r.needs)
