-- What is read after a table file's header is spelled so.
use Rattle.std.proofs.Common.{◌≡◌, ℕ, zero, suc, min, ◌+◌, ◌-◌, ◌^◌, ◌<◌, ◌≤◌, true, false, List}
use Rattle.std.proofs.Common.{[], ◌∷◌, ◌++◌, length, take, drop, Option, Some, None, Ok, refl, sym}
use Rattle.std.proofs.Common.{ap, subst, ◌∙◌, append_assoc, length-append, arith, inl, inr, All}
use Rattle.std.proofs.Common.{lit<, append-nil, take_at, drop_at, take_all}
use Rattle.std.specs.List.{flat_map, list_all}
use Rattle.std.proofs.lemmas.Bool.{cases_lt}
use Rattle.std.proofs.lemmas.List.{get_or_default, nil_from_length, drop_all}
use Rattle.std.proofs.lemmas.List.Folds.{list_all-append}
use Rattle.bw_model.specs.declared.column.Column.{Column}
use Rattle.bw_model.specs.Column.{admits_values}
use Rattle.bw_model.specs.Fault.{at_byte}
use Rattle.bw_model.specs.Groups.{group_size, groups_of, together}
use Rattle.bw_model.specs.Row.{Value}
use Rattle.bw_model.proofs.GroupLemmas.{groups_of-nothing, groups_of-first}
use Rattle.bw_model.proofs.FaultLemmas.{not_refused}
use Rattle.bw_segment.proofs.LayoutLemmas.{block_added}
use Rattle.bw_segment.proofs.SoundLemmas.{length-rows_spelled, spelled_group, bytes_again}
use Rattle.bw_file.specs.declared.layout.Layout.{Layout}
use Rattle.bw_file.specs.Blocks.{form_of, block_size, block_fault, AreSound, IsSound, segment_bytes}
use Rattle.bw_file.specs.Blocks.{rows_spelled}
use Rattle.bw_file.specs.Reading.{Tail, give, field}
use Rattle.bw_file.specs.TableReading.{sound_at, one_block, blocks, segment, group_sizes, has_bytes}
use Rattle.bw_file.specs.TableReading.{end, body}
use Rattle.bw_file.proofs.ReaderLemmas.{group_sizes-some, group_sizes-none}
use Rattle.bw_file.proofs.ReadingLemmas.{both_bytes}
use Rattle.bw_file.proofs.SegmentLemmas.{is_packing}
use Rattle.bw_file.proofs.SpellingLemmas.{IsBytes, Takes, TakesBoth, bind_ok, field_takes}
use Rattle.bw_file.proofs.SpellingLemmas.{takes_then, both_of, ok_is}

abbrev pair : List ℕ → Tail → List ℕ × Tail
pair bytes t = (bytes, t)

sound_ok : (at : ℕ) (layout : Layout) (schema : List Column) (rows number : ℕ) (block : List ℕ) (fault : Option ℕ) (t : Tail) (x : List ℕ × Tail)
    → sound_at at layout schema rows number block fault t ≡ Ok x → (fault ≡ None) × (pair block t ≡ x)
sound_ok at layout schema rows number block None t x e = (refl, ok_is (pair block t) x e)
sound_ok at layout schema rows number block (Some code) t x e = absurd cc

all_bytes : (bytes : List ℕ) → IsBytes bytes → All (λ (byte : ℕ). byte < 2 ^ 8) bytes
all_bytes bytes fits k d lt = rw (get_or_default bytes k d 0 lt) (fits k)

record BlockTaken (layout : Layout) (schema : List Column) (rows number : ℕ) (t : Tail) (x : List ℕ × Tail) : Type 0 where
  takes : Takes t x.0 x.1
  long : length x.0 ≡ block_size layout schema number
  good : block_fault layout schema number rows x.0 ≡ None

block_takes : (layout : Layout) (schema : List Column) (rows number : ℕ) (t : Tail) (x : List ℕ × Tail) → IsBytes t.bytes → one_block layout schema rows number t ≡ Ok x
    → BlockTaken layout schema rows number t x
unfolding one_block
block_takes layout schema rows number t x fits e =
    let b = bind_ok (field (block_size layout schema number) t) (λ bytes. sound_at t.at layout schema rows number bytes (block_fault layout schema number rows bytes)) x e in
    let f = field_takes (block_size layout schema number) t b.0 fits b.1 in
    let s = sound_ok t.at layout schema rows number b.0.0 (block_fault layout schema number rows b.0.0) b.0.1 x b.2 in
    subst (λ (y : List ℕ × Tail). BlockTaken layout schema rows number t y) s.1 (record { takes = f.0; long = f.1; good = s.0 })

record BlocksTaken (layout : Layout) (schema : List Column) (rows count : ℕ) (before : List ℕ) (t : Tail) (x : List ℕ × Tail) : Type 0 where
  text : List ℕ
  after : x.0 ≡ before ++ text
  takes : TakesBoth t text x.1
  sound : AreSound layout schema rows count x.0
  fits : IsBytes x.0

blocks_take : (layout : Layout) (schema : List Column) (rows more number : ℕ) (before : List ℕ) (t : Tail) (x : List ℕ × Tail) → IsBytes t.bytes → IsBytes before
    → AreSound layout schema rows number before → blocks layout schema rows number more before t ≡ Ok x → BlocksTaken layout schema rows (number + more) before t x
unfolding blocks
blocks_take layout schema rows zero number before t x fits own sound e =
    let none : number ≡ number + 0 = omega arith in
    let made : List ℕ × Tail = (before, t) in
    subst (λ (y : List ℕ × Tail). BlocksTaken layout schema rows (number + 0) before t y) (ok_is made x e)
    (record {
      text = [];
      after = sym (append-nil before);
      takes = record { parts = refl; rest = fits };
      sound = subst (λ (k : ℕ). AreSound layout schema rows k before) none sound;
      fits = own;
    })
blocks_take layout schema rows (suc more) number before t x fits own sound e =
    let a = bind_ok (one_block layout schema rows number t) (λ bytes. blocks layout schema rows (suc number) more (before ++ bytes)) x e in
    let b = block_takes layout schema rows number t a.0 fits a.1 in
    let added : AreSound layout schema rows (suc number) (before ++ a.0.0) = block_added (form_of layout) schema rows number before a.0.0 sound b.long b.good in
    let r = blocks_take layout schema rows more (suc number) (before ++ a.0.0) a.0.1 x b.takes.rest (both_bytes before a.0.0 own b.takes.fits) added a.2 in
    let next : suc number + more ≡ number + suc more = omega arith in
    record {
      text = a.0.0 ++ r.text;
      after = r.after ∙ append_assoc before a.0.0 r.text;
      takes = takes_then t a.0.1 x.1 a.0.0 r.text (both_of t a.0.1 a.0.0 b.takes) r.takes;
      sound = subst (λ (k : ℕ). AreSound layout schema rows k x.0) next r.sound;
      fits = r.fits;
    }

record SegmentTaken (layout : Layout) (schema : List Column) (size : ℕ) (t : Tail) (x : List (List Value) × Tail) : Type 0 where
  takes : TakesBoth t (segment_bytes layout schema x.0) x.1
  admitted : list_all (admits_values schema) x.0 ≡ true

nothing_sound : (layout : Layout) (schema : List Column) (rows : ℕ) → AreSound layout schema rows 0 []
nothing_sound layout schema rows = record { size = refl; without = λ column lt. absurd (omega (arith, lt)) }

segment_takes : (layout : Layout) (schema : List Column) (size : ℕ) (t : Tail) (x : List (List Value) × Tail) → IsBytes t.bytes → 1 ≤ size → size ≤ group_size
    → segment layout schema size t ≡ Ok x → SegmentTaken layout schema size t x
unfolding segment
segment_takes layout schema size t x fits some few e =
    let a = bind_ok (blocks layout schema size 0 (length schema) [] t) (λ bytes. give (rows_spelled layout schema size bytes)) x e in
    let b = blocks_take layout schema size (length schema) 0 [] t a.0 fits (λ i. lit< tt) (nothing_sound layout schema size) a.1 in
    let zero_plus : 0 + length schema ≡ length schema = omega arith in
    let sound : IsSound layout schema size a.0.0 = subst (λ (k : ℕ). AreSound layout schema size k a.0.0) zero_plus b.sound in
    let law = is_packing layout in
    let again : segment_bytes layout schema (rows_spelled layout schema size a.0.0) ≡ a.0.0 = bytes_again (form_of layout) law schema size a.0.0 few sound (all_bytes a.0.0 b.fits) in
    let group = spelled_group (form_of layout) law schema size a.0.0 few sound [] some in
    let made : List (List Value) × Tail = (rows_spelled layout schema size a.0.0, a.0.1) in
    let takes : TakesBoth t (segment_bytes layout schema (rows_spelled layout schema size a.0.0)) a.0.1 = rw (again, b.after) b.takes in
    subst (λ (y : List (List Value) × Tail). SegmentTaken layout schema size t y) (ok_is made x a.2)
    (record { takes = takes; admitted = group.admitted })

-- a segment has as many rows as it is asked for
segment_count : (layout : Layout) (schema : List Column) (size : ℕ) (t : Tail) (x : List (List Value) × Tail) → segment layout schema size t ≡ Ok x → length x.0 ≡ size
unfolding segment
segment_count layout schema size t x e =
    let a = bind_ok (blocks layout schema size 0 (length schema) [] t) (λ bytes. give (rows_spelled layout schema size bytes)) x e in
    let made : List (List Value) × Tail = (rows_spelled layout schema size a.0.0, a.0.1) in
    subst (λ (y : List (List Value) × Tail). length y.0 ≡ size) (ok_is made x a.2) (length-rows_spelled (form_of layout) schema size a.0.0)

-- the end is at no byte
no_bytes : (bytes : List ℕ) → has_bytes bytes ≡ false → bytes ≡ []
no_bytes [] e = refl
no_bytes (byte ∷ bytes) e = absurd cc

end_takes : (t : Tail) (x : Unit {0} × Tail) → end t ≡ Ok x → t.bytes ≡ []
unfolding end
end_takes t x e = no_bytes t.bytes (not_refused (has_bytes t.bytes) (at_byte 309 t.at) _ x e).0

abbrev found_pair : List (List (List Value)) → Tail → List (List (List Value)) × Tail
found_pair groups t = (groups, t)

positive_size : 0 < group_size
unfolding group_size
positive_size = lit< tt

no_sizes : (rows : ℕ) → group_sizes rows ≡ [] → rows ≡ 0
no_sizes zero e = refl
no_sizes (suc rows) e = let some = group_sizes-some (suc rows) (omega arith) in absurd (cc (some, e))

some_sizes : (rows size : ℕ) (sizes : List ℕ) → group_sizes rows ≡ size ∷ sizes → 0 < rows
some_sizes zero size sizes e = absurd (cc (group_sizes-none, e))
some_sizes (suc rows) size sizes e = omega arith

first_size : (rows size : ℕ) (sizes : List ℕ) → 0 < rows → size ∷ sizes ≡ group_sizes rows
    → (size ≡ min group_size rows) × ((1 ≤ size) × (size ≤ group_size)) × (sizes ≡ group_sizes (rows - group_size))
unfolding group_size
first_size rows size sizes some e =
    let whole = group_sizes-some rows some in
    let head : size ≡ min group_size rows = cc (whole, e) in
    let rest : sizes ≡ group_sizes (rows - group_size) = cc (whole, e) in
    (head, (omega (arith, head, some), omega (arith, head)), rest)

some_group : (limit rows here there : ℕ) → 0 < limit → 0 < rows → here ≡ min limit rows → 0 < here + there
some_group limit rows here there positive some e = omega arith

cut_group : (group rest : List (List Value)) (rows : ℕ) → length group ≡ min group_size rows → length rest ≡ rows - group_size
    → take group_size (group ++ rest) ∷ groups_of (drop group_size (group ++ rest)) ≡ group ∷ groups_of rest
cut_group group rest rows here there =
    elim (cases_lt rows group_size) [
      | inl less ↦
          let none : rest ≡ [] = nil_from_length rest (omega (arith, there)) in
          let alone : group ++ rest ≡ group = rw none (append-nil group) in
          let all : take group_size group ≡ group = take_all group_size group (omega (arith, here)) in
          let past : drop group_size group ≡ [] = drop_all group_size group (omega (arith, here)) in
          rw (alone, all, past, none) refl
      | inr full ↦
          let whole : length group ≡ group_size = omega (arith, here) in
          rw (take_at group rest group_size whole, drop_at group rest group_size whole) refl
    ]

-- the first group of some rows, if those after it are as many as are left
first_group : (group rest : List (List Value)) (rows : ℕ) → 0 < rows → length group ≡ min group_size rows → length rest ≡ rows - group_size
    → groups_of (group ++ rest) ≡ group ∷ groups_of rest
first_group group rest rows some here there =
    let any : 0 < length (group ++ rest) = simp length-append (some_group group_size rows (length group) (length rest) positive_size some here) in
    groups_of-first (group ++ rest) any ∙ cut_group group rest rows here there

-- groups that were read of this many rows are the groups of these rows, and if bytes were read,
-- their text is what was read
pub record GroupsFound (layout : Layout) (schema : List Column) (rows : ℕ) (before : List (List (List Value))) (t : Tail) (found : List (List (List Value))) : Type 0 where
  pub groups : List (List (List Value))
  pub after : found ≡ before ++ groups
  pub count : length (together groups) ≡ rows
  pub cut : groups_of (together groups) ≡ groups
  pub taken : IsBytes t.bytes → (t.bytes ≡ flat_map (segment_bytes layout schema) groups) × (list_all (admits_values schema) (together groups) ≡ true)

pub groups_found : (layout : Layout) (schema : List Column) (sizes : List ℕ) (rows : ℕ) (before : List (List (List Value))) (t : Tail) (x : List (List (List Value)) × Tail)
    → sizes ≡ group_sizes rows → body layout schema sizes before t ≡ Ok x → GroupsFound layout schema rows before t x.0
unfolding body
groups_found layout schema [] rows before t x sized e =
    let none : rows ≡ 0 = no_sizes rows (sym sized) in
    let a = bind_ok (end t) (λ _. give before) x e in
    let same : before ≡ x.0 = ap (λ (z : List (List (List Value)) × Tail). z.0) (ok_is (found_pair before a.0.1) x a.2) in
    record {
      groups = [];
      after = sym same ∙ sym (append-nil before);
      count = sym none;
      cut = groups_of-nothing {A = List Value};
      taken = λ fits. (end_takes t a.0 a.1, refl);
    }
groups_found layout schema (size ∷ sizes) rows before t x sized e =
    let some = some_sizes rows size sizes (sym sized) in
    let first = first_size rows size sizes some sized in
    let a = bind_ok (segment layout schema size t) (λ group. body layout schema sizes (before ++ group ∷ [])) x e in
    let count = segment_count layout schema size t a.0 a.1 in
    let r = groups_found layout schema sizes (rows - group_size) (before ++ a.0.0 ∷ []) a.0.1 x first.2 a.2 in
    record {
      groups = a.0.0 ∷ r.groups;
      after = r.after ∙ append_assoc before (a.0.0 ∷ []) r.groups;
      count = length-append a.0.0 (together r.groups) ∙ omega (arith, count, r.count, first.0);
      cut = first_group a.0.0 (together r.groups) rows some (count ∙ first.0) r.count ∙ ap (λ (l : List (List (List Value))). a.0.0 ∷ l) r.cut;
      taken = λ fits.
          let g = segment_takes layout schema size t a.0 fits (first.1).0 (first.1).1 a.1 in
          let more = r.taken g.takes.rest in (
            g.takes.parts ∙ ap (λ (l : List ℕ). segment_bytes layout schema a.0.0 ++ l) more.0,
            list_all-append (admits_values schema) a.0.0 (together r.groups) ∙ rw (g.admitted, more.1) refl,
          );
    }
