-- What is read of a table file is spelled so.
use Rattle.std.proofs.Common.{◌≡◌, ℕ, zero, suc, ◌+◌, ◌^◌, ◌<◌, ◌≤◌, Bool, true, false, ◌||◌, All}
use Rattle.std.proofs.Common.{FitsSigned, cond, eqb, nat_lt, List, [], ◌∷◌, ◌++◌, length, get_or}
use Rattle.std.proofs.Common.{take, drop, Result, Ok, Err, refl, sym, ap, subst, ◌∙◌, append_assoc}
use Rattle.std.proofs.Common.{length-drop, arith, slice_index, inl, inr, ◌⊎◌, bytes_eq}
use Rattle.std.proofs.Common.{take-append-drop, length-take-le, take_all, get_or-drop, append-nil}
use Rattle.std.specs.Int.{w16, w32, w64, to_le_bytes, from_le_bytes, cast_signed}
use Rattle.std.specs.List.{flat_map, list_all}
use Rattle.std.proofs.lemmas.Bool.{cases_Bool, eqb-true, ltb-false, not-false, or_cases, or_parts}
use borrow.Author.Differences.{fits_in, read_fits}
use Rattle.std.proofs.lemmas.Int.{of_z-to_z}
use Rattle.std.proofs.lemmas.List.Elements.{All-nil, All-cons}
use Rattle.std.proofs.lemmas.Nat.{le_bytes_2, le_bytes_4, le_bytes_8}
use Rattle.std.proofs.lemmas.Slice.Eq.{bytes_eq-Decides}
use Rattle.bw_model.specs.declared.fault.Fault.{Fault}
use Rattle.bw_model.specs.Limits.{most_rows, most_columns}
use Rattle.bw_model.specs.Name.{is_name}
use Rattle.bw_model.specs.Schema.{IsColumn, IsSchema}
use Rattle.bw_model.specs.SchemaText.{ColumnShape, shape, shape_names}
use Rattle.bw_model.proofs.FaultLemmas.{not_refused}
use Rattle.bw_file.specs.declared.fields.Bounds.{Bounds}
use Rattle.bw_file.specs.declared.layout.Layout.{Layout}
use Rattle.bw_file.specs.declared.order.FileOrder.{FileOrder}
use Rattle.bw_file.specs.declared.layout.Layout.TheVariants.{Planes, Slices}
use Rattle.bw_file.specs.FileBytes.{magic, layout_byte, flag_byte, front_bytes, name_bytes}
use Rattle.bw_file.specs.FileBytes.{bound_bytes, column_bytes, are_bounds}
use Rattle.bw_file.specs.Reading.{Tail, tail, Reading, and_then, ◌>>=◌, give, field, parsed_at}
use Rattle.bw_file.specs.Reading.{read_field}
use Rattle.bw_file.specs.TableReading.{parse_magic, parse_version, parse_layout, parse_count}
use Rattle.bw_file.specs.TableReading.{parse_row_count, bound_in, parse_bounds, parse_nullable}
use Rattle.bw_file.specs.TableReading.{parse_name, name, column, columns, FrontShape, front_of}
use Rattle.bw_file.specs.TableReading.{front, HeaderShape, header_of, header_in, is_version}
use Rattle.bw_file.proofs.ReadingLemmas.{front_bytes as bytes_in_front}

abbrev pub IsBytes : List ℕ → Type 0
IsBytes bytes = (i : ℕ) → get_or bytes i 0 < 256

IsBytes-drop : (n : ℕ) (bytes : List ℕ) → IsBytes bytes → IsBytes (drop n bytes)
IsBytes-drop n bytes h i = rw get_or-drop (h (n + i))

-- what reading took
pub record Takes (from : Tail) (text : List ℕ) (to : Tail) : Type 0 where
  pub parts : from.bytes ≡ text ++ to.bytes
  pub fits : IsBytes text
  pub rest : IsBytes to.bytes

-- one text and then another
pub record TakesBoth (from : Tail) (text : List ℕ) (to : Tail) : Type 0 where
  pub parts : from.bytes ≡ text ++ to.bytes
  pub rest : IsBytes to.bytes

pub bind_ok : {A B : Type 0} (r : Result (A × Tail) Fault) (next : A → Reading B) (y : B × Tail) → and_then r next ≡ Ok y
    → (x : A × Tail) × (r ≡ Ok x) × (next x.0 x.1 ≡ Ok y)
bind_ok (Ok x) next y e = (x, refl, e)
bind_ok (Err fault) next y e = absurd cc

pub ok_is : {A E : Type 0} (x y : A) → ◌≡◌ {A = Result A E} (Ok x) (Ok y) → x ≡ y
ok_is x y e = cc

pub field_takes : (size : ℕ) (t : Tail) (x : List ℕ × Tail) → IsBytes t.bytes → field size t ≡ Ok x → Takes t x.0 x.1 × (length x.0 ≡ size)
unfolding field
field_takes size t x fits e =
    let g = not_refused (nat_lt (length t.bytes) size) _ _ x e in
    let long : size ≤ length t.bytes = ltb-false _ _ g.0 in
    let taken : List ℕ × Tail = (take size t.bytes, tail (t.at + size) (drop size t.bytes)) in
    subst (λ (y : List ℕ × Tail). Takes t y.0 y.1 × (length y.0 ≡ size)) (ok_is taken x g.1)
    (record { parts = sym (take-append-drop size t.bytes); fits = bytes_in_front size t.bytes fits; rest = IsBytes-drop size t.bytes fits }, length-take-le size t.bytes long)

said_ok : {A : Type 0} (at : ℕ) (said : Result A ℕ) (t : Tail) (x : A × Tail) → parsed_at at said t ≡ Ok x → (said ≡ Ok x.0) × (t ≡ x.1)
said_ok {A = A} at (Ok y) t x e = let same = ok_is (y, t) x e in (ap (λ (z : A × Tail). Ok z.0) same, ap (λ (z : A × Tail). z.1) same)
said_ok at (Err code) t x e = absurd cc

-- a field that was checked, and what it says
record Judged {A : Type 0} (size : ℕ) (says : List ℕ → Result A ℕ) (from : Tail) (x : A) (to : Tail) : Type 0 where
  text : List ℕ
  takes : Takes from text to
  long : length text ≡ size
  said : says text ≡ Ok x

read_field_takes : {A : Type 0} (size : ℕ) (says : List ℕ → Result A ℕ) (t : Tail) (x : A × Tail) → IsBytes t.bytes → read_field size says t ≡ Ok x → Judged size says t x.0 x.1
unfolding read_field
read_field_takes size says t x fits e =
    let b = bind_ok (field size t) (λ bytes. parsed_at t.at (says bytes)) x e in
    let f = field_takes size t b.0 fits b.1 in
    let s = said_ok t.at (says b.0.0) b.0.1 x b.2 in
    record { text = b.0.0; takes = subst (λ (u : Tail). Takes t b.0.0 u) s.1 f.0; long = f.1; said = s.0 }

-- a single byte
single : (text : List ℕ) → length text ≡ 1 → text ≡ get_or text 0 0 ∷ []
single (byte ∷ []) e = refl
single _ e = absurd (omega (arith, e))

abbrev said : {A : Type 0} → A → Result A ℕ
said x = Ok x

-- a choice that was made
chosen : {A : Type 0} (b : Bool) (x y : A) (code : ℕ) → cond b (Ok x) (Err code) ≡ said y → (b ≡ true) × (x ≡ y)
chosen true x y code e = (refl, ok_is x y e)
chosen false x y code e = absurd cc

left : {A : Type 0} (b : Bool) (x y : A) (code : ℕ) → cond b (Err code) (Ok x) ≡ said y → (b ≡ false) × (x ≡ y)
left true x y code e = absurd cc
left false x y code e = (refl, ok_is x y e)

magic_is : (order : FileOrder) (text : List ℕ) → parse_magic order text ≡ said tt → text ≡ magic order
unfolding parse_magic
magic_is order text e = (bytes_eq-Decides text (magic order)).0 (chosen (bytes_eq text (magic order)) tt tt 301 e).0

version_is : (order : FileOrder) (text : List ℕ) (version : ℕ) → length text ≡ 1 → parse_version order text ≡ Ok version
    → (text ≡ version ∷ []) × (is_version order version ≡ true)
unfolding parse_version
version_is order text version long e =
    let g = chosen (is_version order (get_or text 0 0)) (get_or text 0 0) version 302 e in
    (single text long ∙ ap (λ (b : ℕ). b ∷ []) g.1, ap (is_version order) (sym g.1) ∙ g.0)

-- one of two values, by a byte that is 0 or 1
by_byte : {A : Type 0} (spell : A → ℕ) (a b : A) (code : ℕ) (text : List ℕ) (x : A) → spell a ≡ 0 → spell b ≡ 1 → length text ≡ 1
    → cond (eqb (get_or text 0 0) 0) (Ok a) (cond (eqb (get_or text 0 0) 1) (Ok b) (Err code)) ≡ said x → text ≡ spell x ∷ []
by_byte spell a b code text x at_zero at_one long e = elim (cases_Bool (eqb (get_or text 0 0) 0)) [
  | inl i ↦ single text long ∙ rw (eqb-true _ _ i, ← ok_is a x (rw i at e), at_zero) refl
  | inr n ↦ (let g = chosen (eqb (get_or text 0 0) 1) b x code (rw n at e) in single text long ∙ rw (eqb-true _ _ g.0, ← g.1, at_one) refl)
]

layout_is : (text : List ℕ) (layout : Layout) → length text ≡ 1 → parse_layout text ≡ Ok layout → text ≡ layout_byte layout ∷ []
unfolding parse_layout
layout_is text layout = by_byte layout_byte Planes Slices 303 text layout refl refl

nullable_is : (text : List ℕ) (nullable : Bool) → length text ≡ 1 → parse_nullable text ≡ Ok nullable → text ≡ flag_byte nullable ∷ []
unfolding parse_nullable
nullable_is text nullable = by_byte flag_byte false true 304 text nullable refl refl

count_is : (text : List ℕ) (count : ℕ) → length text ≡ 2 → IsBytes text → parse_count text ≡ Ok count → text ≡ to_le_bytes w16 count
unfolding parse_count
count_is text count long fits e =
    let g = left (eqb (from_le_bytes w16 text) 0 || nat_lt most_columns (from_le_bytes w16 text)) (from_le_bytes w16 text) count 304 e in
    sym (le_bytes_2 text count long fits (sym g.1))

rows_are : (text : List ℕ) (rows : ℕ) → length text ≡ 4 → IsBytes text → parse_row_count text ≡ Ok rows → (text ≡ to_le_bytes w32 rows) × (rows ≤ most_rows)
unfolding parse_row_count
rows_are text rows long fits e =
    let g = left (nat_lt most_rows (from_le_bytes w32 text)) (from_le_bytes w32 text) rows 310 e in
    (sym (le_bytes_4 text rows long fits (sym g.1)), rw (← g.1) (ltb-false _ _ g.0))

bound_is : (text : List ℕ) → length text ≡ 8 → IsBytes text → bound_bytes (bound_in text) ≡ text
bound_is text long fits =
    let small : from_le_bytes w64 text < 2 ^ 64 = omega (arith, fits 0, fits 1, fits 2, fits 3, fits 4, fits 5, fits 6, fits 7) in
    ap (to_le_bytes w64) (of_z-to_z w64 (from_le_bytes w64 text) small) ∙ le_bytes_8 text (from_le_bytes w64 text) long fits refl

cast_fits : (n : ℕ) → FitsSigned w64 (cast_signed w64 n)
cast_fits n = omega (arith, fits_in, read_fits w64 n)

-- bounds of eight bytes each
record AreBounds (version : ℕ) (text : List ℕ) (bounds : Bounds) : Type 0 where
  spelled : text ≡ bound_bytes bounds.lo ++ bound_bytes bounds.hi
  ordered : are_bounds version bounds.lo bounds.hi ≡ true
  lo : FitsSigned w64 bounds.lo
  hi : FitsSigned w64 bounds.hi

bounds_are : (version : ℕ) (text : List ℕ) (bounds : Bounds) → length text ≡ 16 → IsBytes text → parse_bounds version text ≡ Ok bounds
    → AreBounds version text bounds
unfolding parse_bounds
bounds_are version text bounds long fits e =
    let lo = bound_in (take 8 text) in
    let hi = bound_in (take 8 (drop 8 text)) in
    let made : Bounds = record { lo = lo; hi = hi } in
    let g = chosen (are_bounds version lo hi) made bounds 304 e in
    let back : length (drop 8 text) ≡ 8 = omega (arith, length-drop 8 text) in
    let first : bound_bytes lo ≡ take 8 text = bound_is (take 8 text) (length-take-le 8 text (omega (arith, long))) (bytes_in_front 8 text fits) in
    let all : take 8 (drop 8 text) ≡ drop 8 text = take_all 8 (drop 8 text) (omega (arith, back)) in
    let second : bound_bytes hi ≡ drop 8 text = bound_is (take 8 (drop 8 text)) (length-take-le 8 (drop 8 text) (omega (arith, back))) (bytes_in_front 8 (drop 8 text) (IsBytes-drop 8 text fits)) ∙ all in
    let whole : bound_bytes lo ++ bound_bytes hi ≡ text =
    ap (λ (l : List ℕ). l ++ bound_bytes hi) first ∙ ap (λ (l : List ℕ). take 8 text ++ l) second ∙ take-append-drop 8 text in
    subst (AreBounds version text) g.1 (record {
      spelled = sym whole;
      ordered = g.0;
      lo = cast_fits (from_le_bytes w64 (take 8 text));
      hi = cast_fits (from_le_bytes w64 (take 8 (drop 8 text)));
    })

-- texts that were taken one after another
pub takes_then : (a b c : Tail) (x y : List ℕ) → TakesBoth a x b → TakesBoth b y c → TakesBoth a (x ++ y) c
takes_then a b c x y p q = record { parts = p.parts ∙ ap (λ (l : List ℕ). x ++ l) q.parts ∙ sym (append_assoc x y c.bytes); rest = q.rest }

pub both_of : (a b : Tail) (x : List ℕ) → Takes a x b → TakesBoth a x b
both_of a b x p = record { parts = p.parts; rest = p.rest }

takes_as : (a b : Tail) (x y : List ℕ) → Takes a x b → x ≡ y → TakesBoth a y b
takes_as a b x y p e = rw (← e) (both_of a b x p)

named : (before : List (List ℕ)) (text found : List ℕ) → parse_name before text ≡ Ok found → (text ≡ found) × (is_name found ≡ true)
unfolding parse_name
named before text found e =
    let g = left _ text found 304 e in (g.1, ap is_name (sym g.1) ∙ not-false _ (or_parts _ _ g.0).0)

name_takes : (before : List (List ℕ)) (t : Tail) (x : List ℕ × Tail) → IsBytes t.bytes → name before t ≡ Ok x → TakesBoth t (name_bytes x.0) x.1 × (is_name x.0 ≡ true)
unfolding name
name_takes before t x fits e =
    let a = bind_ok (field 1 t) (λ size. field (slice_index size 0) >>= λ text. parsed_at t.at (parse_name before text)) x e in
    let b = bind_ok (field (slice_index a.0.0 0) a.0.1) (λ text. parsed_at t.at (parse_name before text)) x a.2 in
    let fa = field_takes 1 t a.0 fits a.1 in
    let fb = field_takes (slice_index a.0.0 0) a.0.1 b.0 fa.0.rest b.1 in
    let s = said_ok t.at (parse_name before b.0.0) b.0.1 x b.2 in
    let is = named before b.0.0 x.0 s.0 in
    let same : b.0.0 ≡ x.0 = is.0 in
    let size : a.0.0 ≡ length x.0 ∷ [] = single a.0.0 fa.1 ∙ ap (λ (n : ℕ). n ∷ []) (sym fb.1 ∙ ap length same) in
    let whole : TakesBoth t ((length x.0 ∷ []) ++ x.0) b.0.1 =
    takes_then t a.0.1 b.0.1 (length x.0 ∷ []) x.0 (takes_as t a.0.1 a.0.0 (length x.0 ∷ []) fa.0 size) (takes_as a.0.1 b.0.1 b.0.0 x.0 fb.0 same) in
    (subst (λ (u : Tail). TakesBoth t (name_bytes x.0) u) s.1 whole, is.1)

abbrev pub schema_bytes : ColumnShape → List ℕ
schema_bytes column = column_bytes column.name column.lo column.hi column.nullable

-- bounds that a version has room for
abbrev pub fits_version : ℕ → ColumnShape → Bool
fits_version version column = are_bounds version column.lo column.hi

column_takes : (version : ℕ) (before : List (List ℕ)) (t : Tail) (x : ColumnShape × Tail) → IsBytes t.bytes → column version before t ≡ Ok x
    → TakesBoth t (schema_bytes x.0) x.1 × (fits_version version x.0 ≡ true) × IsColumn x.0
unfolding column column_bytes
column_takes version before t x fits e =
    let a = bind_ok (name before t) (λ text. read_field 16 (parse_bounds version) >>= λ bounds. read_field 1 parse_nullable >>= λ nullable. give (shape text bounds.lo bounds.hi nullable)) x e in
    let b = bind_ok (read_field 16 (parse_bounds version) a.0.1) (λ bounds. read_field 1 parse_nullable >>= λ nullable. give (shape a.0.0 bounds.lo bounds.hi nullable)) x a.2 in
    let c = bind_ok (read_field 1 parse_nullable b.0.1) (λ nullable. give (shape a.0.0 b.0.0.lo b.0.0.hi nullable)) x b.2 in
    let ta = name_takes before t a.0 fits a.1 in
    let jb = read_field_takes 16 (parse_bounds version) a.0.1 b.0 ta.0.rest b.1 in
    let jc = read_field_takes 1 parse_nullable b.0.1 c.0 jb.takes.rest c.1 in
    let bs = bounds_are version jb.text b.0.0 jb.long jb.takes.fits jb.said in
    let tb = takes_as a.0.1 b.0.1 jb.text _ jb.takes bs.spelled in
    let tc = takes_as b.0.1 c.0.1 jc.text _ jc.takes (nullable_is jc.text c.0.0 jc.long jc.said) in
    let whole = takes_then t b.0.1 c.0.1 (name_bytes a.0.0 ++ (bound_bytes b.0.0.lo ++ bound_bytes b.0.0.hi)) (flag_byte c.0.0 ∷ [])
    (takes_then t a.0.1 b.0.1 (name_bytes a.0.0) (bound_bytes b.0.0.lo ++ bound_bytes b.0.0.hi) ta.0 tb) tc in
    let made : ColumnShape × Tail = (shape a.0.0 b.0.0.lo b.0.0.hi c.0.0, c.0.1) in
    let is : IsColumn made.0 = record { name = ta.1; lo = bs.lo; hi = bs.hi } in
    subst (λ (y : ColumnShape × Tail). TakesBoth t (schema_bytes y.0) y.1 × (fits_version version y.0 ≡ true) × IsColumn y.0) (ok_is made x c.2) (whole, bs.ordered, is)

columns_take : (version count : ℕ) (before : List ColumnShape) (t : Tail) (x : List ColumnShape × Tail) → IsBytes t.bytes → columns version before count t ≡ Ok x
    → (more : List ColumnShape) × (x.0 ≡ before ++ more) × (length more ≡ count) × TakesBoth t (flat_map schema_bytes more) x.1 × (list_all (fits_version version) more ≡ true) × All IsColumn more
unfolding columns
columns_take version zero before t x fits e =
    let made : List ColumnShape × Tail = (before, t) in
    subst (λ (y : List ColumnShape × Tail). (more : List ColumnShape) × (y.0 ≡ before ++ more) × (length more ≡ 0) × TakesBoth t (flat_map schema_bytes more) y.1 × (list_all (fits_version version) more ≡ true) × All IsColumn more)
    (ok_is made x e) ([], sym (append-nil before), refl, record { parts = refl; rest = fits }, refl, All-nil IsColumn)
columns_take version (suc count) before t x fits e =
    let a = bind_ok (column version (shape_names before) t) (λ next. columns version (before ++ next ∷ []) count) x e in
    let ta = column_takes version (shape_names before) t a.0 fits a.1 in
    let r = columns_take version count (before ++ a.0.0 ∷ []) a.0.1 x ta.0.rest a.2 in (
      a.0.0 ∷ r.0,
      r.1 ∙ append_assoc before (a.0.0 ∷ []) r.0,
      ap suc r.2,
      takes_then t a.0.1 x.1 (schema_bytes a.0.0) (flat_map schema_bytes r.0) ta.0 r.3,
      rw (ta.1, r.4) refl,
      All-cons IsColumn a.0.0 r.0 ta.2 r.5,
    )

-- what is known of a front and of a header
record IsFront (order : FileOrder) (f : FrontShape) : Type 0 where
  version : is_version order f.version ≡ true
  within_limit : f.rows ≤ most_rows

front_takes : (order : FileOrder) (t : Tail) (x : FrontShape × Tail) → IsBytes t.bytes → front order t ≡ Ok x
    → TakesBoth t (front_bytes order x.0.version x.0.layout x.0.columns x.0.rows) x.1 × IsFront order x.0
unfolding front front_bytes
front_takes order t x fits e =
    let a = bind_ok (read_field 8 (parse_magic order) t) (λ _. read_field 1 (parse_version order) >>= λ version. read_field 1 parse_layout >>= λ layout. read_field 2 parse_count >>= λ count. read_field 4 parse_row_count >>= λ rows. give (front_of version layout count rows)) x e in
    let b = bind_ok (read_field 1 (parse_version order) a.0.1) (λ version. read_field 1 parse_layout >>= λ layout. read_field 2 parse_count >>= λ count. read_field 4 parse_row_count >>= λ rows. give (front_of version layout count rows)) x a.2 in
    let c = bind_ok (read_field 1 parse_layout b.0.1) (λ layout. read_field 2 parse_count >>= λ count. read_field 4 parse_row_count >>= λ rows. give (front_of b.0.0 layout count rows)) x b.2 in
    let d = bind_ok (read_field 2 parse_count c.0.1) (λ count. read_field 4 parse_row_count >>= λ rows. give (front_of b.0.0 c.0.0 count rows)) x c.2 in
    let g = bind_ok (read_field 4 parse_row_count d.0.1) (λ rows. give (front_of b.0.0 c.0.0 d.0.0 rows)) x d.2 in
    let ja = read_field_takes 8 (parse_magic order) t a.0 fits a.1 in
    let jb = read_field_takes 1 (parse_version order) a.0.1 b.0 ja.takes.rest b.1 in
    let jc = read_field_takes 1 parse_layout b.0.1 c.0 jb.takes.rest c.1 in
    let jd = read_field_takes 2 parse_count c.0.1 d.0 jc.takes.rest d.1 in
    let jg = read_field_takes 4 parse_row_count d.0.1 g.0 jd.takes.rest g.1 in
    let vs = version_is order jb.text b.0.0 jb.long jb.said in
    let rs = rows_are jg.text g.0.0 jg.long jg.takes.fits jg.said in
    let ta = takes_as t a.0.1 ja.text (magic order) ja.takes (magic_is order ja.text ja.said) in
    let tb = takes_as a.0.1 b.0.1 jb.text (b.0.0 ∷ []) jb.takes vs.0 in
    let tc = takes_as b.0.1 c.0.1 jc.text (layout_byte c.0.0 ∷ []) jc.takes (layout_is jc.text c.0.0 jc.long jc.said) in
    let td = takes_as c.0.1 d.0.1 jd.text (to_le_bytes w16 d.0.0) jd.takes (count_is jd.text d.0.0 jd.long jd.takes.fits jd.said) in
    let tg = takes_as d.0.1 g.0.1 jg.text (to_le_bytes w32 g.0.0) jg.takes rs.0 in
    let tbc : TakesBoth a.0.1 (b.0.0 ∷ layout_byte c.0.0 ∷ []) c.0.1 = takes_then a.0.1 b.0.1 c.0.1 (b.0.0 ∷ []) (layout_byte c.0.0 ∷ []) tb tc in
    let tabc = takes_then t a.0.1 c.0.1 (magic order) (b.0.0 ∷ layout_byte c.0.0 ∷ []) ta tbc in
    let tabcd = takes_then t c.0.1 d.0.1 (magic order ++ (b.0.0 ∷ layout_byte c.0.0 ∷ [])) (to_le_bytes w16 d.0.0) tabc td in
    let whole = takes_then t d.0.1 g.0.1 (magic order ++ (b.0.0 ∷ layout_byte c.0.0 ∷ []) ++ to_le_bytes w16 d.0.0) (to_le_bytes w32 g.0.0) tabcd tg in
    let made : FrontShape × Tail = (front_of b.0.0 c.0.0 d.0.0 g.0.0, g.0.1) in
    subst (λ (y : FrontShape × Tail). TakesBoth t (front_bytes order y.0.version y.0.layout y.0.columns y.0.rows) y.1 × IsFront order y.0) (ok_is made x g.2)
    (whole, record { version = vs.1; within_limit = rs.1 })

-- the text of a header's shape
abbrev pub head_bytes : FileOrder → HeaderShape → List ℕ
head_bytes order h = front_bytes order h.version h.layout (length h.schema.columns) h.rows ++ name_bytes h.schema.name ++ flat_map schema_bytes h.schema.columns

pub record IsHeader (order : FileOrder) (h : HeaderShape) : Type 0 where
  pub version : is_version order h.version ≡ true
  pub within_limit : h.rows ≤ most_rows
  pub bounds : list_all (fits_version h.version) h.schema.columns ≡ true
  pub schema : IsSchema h.schema

pub header_takes : (order : FileOrder) (t : Tail) (x : HeaderShape × Tail) → IsBytes t.bytes → header_in order t ≡ Ok x → TakesBoth t (head_bytes order x.0) x.1 × IsHeader order x.0
unfolding header_in
header_takes order t x fits e =
    let a = bind_ok (front order t) (λ first. name [] >>= λ text. columns first.version [] first.columns >>= λ found. give (header_of first text found)) x e in
    let b = bind_ok (name [] a.0.1) (λ text. columns a.0.0.version [] a.0.0.columns >>= λ found. give (header_of a.0.0 text found)) x a.2 in
    let c = bind_ok (columns a.0.0.version [] a.0.0.columns b.0.1) (λ found. give (header_of a.0.0 b.0.0 found)) x b.2 in
    let ta = front_takes order t a.0 fits a.1 in
    let tb = name_takes [] a.0.1 b.0 ta.0.rest b.1 in
    let tc = columns_take a.0.0.version a.0.0.columns [] b.0.1 c.0 tb.0.rest c.1 in
    let found : c.0.0 ≡ tc.0 = tc.1 in
    let text : TakesBoth b.0.1 (flat_map schema_bytes c.0.0) c.0.1 = rw found tc.3 in
    let count : length c.0.0 ≡ a.0.0.columns = ap length found ∙ tc.2 in
    let front_part : TakesBoth t (front_bytes order a.0.0.version a.0.0.layout (length c.0.0) a.0.0.rows) a.0.1 = rw count ta.0 in
    let whole = takes_then t b.0.1 c.0.1 (front_bytes order a.0.0.version a.0.0.layout (length c.0.0) a.0.0.rows ++ name_bytes b.0.0) (flat_map schema_bytes c.0.0)
    (takes_then t a.0.1 b.0.1 (front_bytes order a.0.0.version a.0.0.layout (length c.0.0) a.0.0.rows) (name_bytes b.0.0) front_part tb.0) text in
    let bounds : list_all (fits_version a.0.0.version) c.0.0 ≡ true = rw found tc.4 in
    let schema : IsSchema (header_of a.0.0 b.0.0 c.0.0).schema = record { name = tb.1; columns = subst (All IsColumn) (sym found) tc.5 } in
    let made : HeaderShape × Tail = (header_of a.0.0 b.0.0 c.0.0, c.0.1) in
    subst (λ (y : HeaderShape × Tail). TakesBoth t (head_bytes order y.0) y.1 × IsHeader order y.0) (ok_is made x c.2)
    (whole, record { version = ta.1.version; within_limit = ta.1.within_limit; bounds = bounds; schema = schema })
