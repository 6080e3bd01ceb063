-- What is spelled is read: the header of a table file.
use Rattle.std.proofs.Common.{◌≡◌, ℕ, ℤ, suc, ◌+◌, ◌^◌, ◌<◌, ◌≤◌, Bool, true, false, ◌||◌, not, All}
use Rattle.std.proofs.Common.{FitsSigned, List, [], ◌∷◌, ◌++◌, length, take, drop, eqb, nat_lt}
use Rattle.std.proofs.Common.{Result, Ok, refl, sym, ap, ap₂, subst, ◌∙◌, append_assoc}
use Rattle.std.proofs.Common.{length-append, arith, slice_index, inl, inr, ◌⊎◌}
use Rattle.std.proofs.Common.{append-nil, take_at, drop_at, take_all}
use Rattle.std.proofs.Math.Facts.{Fits-lt-pow, Fits-of_z}
use Rattle.std.specs.Int.{w16, w32, w64, to_le_bytes, cast_unsigned}
use Rattle.std.specs.List.{flat_map, list_all, list_any}
use Rattle.std.proofs.lemmas.Bool.{le-ltb, ne_eqb, not-true, or_parts}
use Rattle.std.proofs.lemmas.List.Elements.{All-head, All-tail}
use Rattle.std.proofs.lemmas.Nat.{from_le_bytes-to_le_bytes_2, from_le_bytes-to_le_bytes_4}
use Rattle.std.proofs.lemmas.Nat.{from_le_bytes-to_le_bytes_8}
use Rattle.std.proofs.lemmas.Int.{to_z-of_z}
use Rattle.bw_model.specs.declared.fault.Fault.{Fault}
use Rattle.bw_model.specs.Limits.{most_rows, most_columns}
use Rattle.bw_model.specs.Name.{is_name, are_apart}
use Rattle.bw_model.specs.Schema.{IsColumn}
use Rattle.bw_model.specs.SchemaText.{ColumnShape, shape, shape_names}
use Rattle.bw_text.specs.Text.{same_text}
use Rattle.bw_model.proofs.BitsLemmas.{both}
use Rattle.bw_file.specs.declared.layout.Layout.{Layout}
use Rattle.bw_file.specs.declared.order.FileOrder.{FileOrder}
use Rattle.bw_file.specs.declared.order.FileOrder.TheVariants.{ByRows, ByColumns}
use Rattle.bw_file.specs.declared.layout.Layout.TheVariants.{Planes, Slices}
use Rattle.bw_file.specs.FileBytes.{magic, layout_byte, flag_byte, front_bytes, name_bytes}
use Rattle.bw_file.specs.FileBytes.{bound_bytes, column_bytes, are_bounds}
use Rattle.bw_file.specs.Reading.{Tail, tail, Reading, and_then, ◌>>=◌, give, field, parsed_at}
use Rattle.bw_file.specs.Reading.{read_field, NeedsEach}
use Rattle.bw_file.specs.TableReading.{parse_magic, parse_version, parse_layout, parse_count}
use Rattle.bw_file.specs.TableReading.{parse_row_count, bound_in, parse_bounds, parse_nullable}
use Rattle.bw_file.specs.TableReading.{parse_name, name, column, columns, front_of, front}
use Rattle.bw_file.specs.TableReading.{HeaderShape, header_of, header_in, is_version}
use Rattle.bw_file.proofs.ReadingLemmas.{field_needs, needs_first, needs_more, needs_none}
use Rattle.bw_file.proofs.SpellingLemmas.{schema_bytes, fits_version, head_bytes, IsHeader}

-- reading gives this of a text, whatever follows it, and needs each of its bytes
pub record ReadsText {A : Type 0} (reading : Reading A) (text : List ℕ) (x : A) : Type 0 where
  pub reads : (at : ℕ) (rest : List ℕ) → reading (tail at (text ++ rest)) ≡ Ok (x, tail (at + length text) rest)
  pub needs : (at : ℕ) → NeedsEach reading at text

abbrev here : {A : Type 0} → A → ℕ → List ℕ → Result (A × Tail) Fault
here x at rest = Ok (x, tail at rest)

-- one text and then another, which may depend on what the first gave
pub text_then : {A B : Type 0} (first : Reading A) (next : A → Reading B) (one two : List ℕ) (x : A) (y : B)
    → ReadsText first one x → ReadsText (next x) two y → ReadsText (first >>= next) (one ++ two) y
text_then {A = A} first next one two x y p q = record {
  reads = λ at rest.
      let there : at + length one + length two ≡ at + length (one ++ two) = omega (arith, length-append one two) in
      ap (λ (bytes : List ℕ). and_then (first (tail at bytes)) next) (append_assoc one two rest)
      ∙ on at (two ++ rest) ∙ q.reads (at + length one) rest ∙ ap (λ (n : ℕ). here y n rest) there;
  needs = λ at. needs_more (first >>= next) (next x) at (at + length one) one two refl (needs_first first next at one (p.needs at)) (on at) (q.needs (at + length one));
}
  where
    on : (at : ℕ) (rest : List ℕ) → (first >>= next) (tail at (one ++ rest)) ≡ next x (tail (at + length one) rest)
    on at rest = ap (λ (r : Result (A × Tail) Fault). and_then r next) (p.reads at rest)

-- a text, of which something is made
pub text_gives : {A B : Type 0} (first : Reading A) (made : A → B) (text : List ℕ) (x : A) → ReadsText first text x → ReadsText (first >>= λ found. give (made found)) text (made x)
text_gives {A = A} first made text x p = record {
  reads = λ at rest. ap (λ (r : Result (A × Tail) Fault). and_then r (λ found. give (made found))) (p.reads at rest);
  needs = λ at. needs_first first (λ found. give (made found)) at text (p.needs at);
}

pub text_as : {A : Type 0} (reading : Reading A) (one two : List ℕ) (x : A) → one ≡ two → ReadsText reading one x → ReadsText reading two x
text_as reading one two x same p = subst (λ (text : List ℕ). ReadsText reading text x) same p

-- a reading that is another one at each place
pub text_there : {A : Type 0} (reading : Reading A) (there : ℕ → Reading A) (text : List ℕ) (x : A) → ((at : ℕ) (bytes : List ℕ) → reading (tail at bytes) ≡ there at (tail at bytes))
    → ((at : ℕ) → ReadsText (there at) text x) → ReadsText reading text x
text_there reading there text x same p = record {
  reads = λ at rest. same at (text ++ rest) ∙ (p at).reads at rest;
  needs = λ at n lt. same at (take n text) ∙ (p at).needs at n lt;
}

pub field_reads : (size : ℕ) (text : List ℕ) → length text ≡ size → ReadsText (field size) text text
unfolding field
field_reads size text whole = record {
  reads = λ at rest.
      let long : nat_lt (length (text ++ rest)) size ≡ false = le-ltb _ _ (omega (arith, length-append text rest)) in
      rw (long, take_at text rest size whole, drop_at text rest size whole, whole) refl;
  needs = λ at. field_needs size at text (omega (arith, whole));
}

-- a field whose bytes say something
said_reads : {A : Type 0} (at size : ℕ) (says : List ℕ → Result A ℕ) (text : List ℕ) (x : A) → length text ≡ size → says text ≡ Ok x
    → ReadsText (field size >>= λ bytes. parsed_at at (says bytes)) text x
said_reads {A = A} at size says text x whole said =
    let p = field_reads size text whole in
    record {
      reads = λ now rest.
          ap (λ (r : Result (List ℕ × Tail) Fault). and_then r (λ bytes. parsed_at at (says bytes))) (p.reads now rest)
          ∙ ap (λ (r : Result A ℕ). parsed_at at r (tail (now + length text) rest)) said;
      needs = λ now. needs_first (field size) (λ bytes. parsed_at at (says bytes)) now text (p.needs now);
    }

pub read_field_reads : {A : Type 0} (size : ℕ) (says : List ℕ → Result A ℕ) (text : List ℕ) (x : A) → length text ≡ size → says text ≡ Ok x → ReadsText (read_field size says) text x
unfolding read_field
read_field_reads size says text x whole said =
    text_there (read_field size says) (λ at. field size >>= λ bytes. parsed_at at (says bytes)) text x (λ at bytes. refl) (λ at. said_reads at size says text x whole said)

-- what the fields of a header say
magic_read : (order : FileOrder) → parse_magic order (magic order) ≡ Ok tt
unfolding parse_magic magic
magic_read ByRows = refl
magic_read ByColumns = refl

length-magic : (order : FileOrder) → length (magic order) ≡ 8
unfolding magic
length-magic ByRows = refl
length-magic ByColumns = refl

version_read : (order : FileOrder) (version : ℕ) → is_version order version ≡ true → parse_version order (version ∷ []) ≡ Ok version
unfolding parse_version
version_read order version is = rw is refl

layout_read : (layout : Layout) → parse_layout (layout_byte layout ∷ []) ≡ Ok layout
unfolding parse_layout
layout_read Planes = refl
layout_read Slices = refl

nullable_read : (nullable : Bool) → parse_nullable (flag_byte nullable ∷ []) ≡ Ok nullable
unfolding parse_nullable
nullable_read false = refl
nullable_read true = refl

count_read : (count : ℕ) → 1 ≤ count → count ≤ most_columns → parse_count (to_le_bytes w16 count) ≡ Ok count
unfolding parse_count
count_read count some few =
    let back = from_le_bytes-to_le_bytes_2 count (omega (arith, few)) in
    let any : eqb count 0 ≡ false = ne_eqb count 0 (λ none. omega (arith, some, none)) in
    let room : nat_lt most_columns count ≡ false = le-ltb _ _ few in
    rw (back, any, room) refl

rows_read : (rows : ℕ) → rows ≤ most_rows → parse_row_count (to_le_bytes w32 rows) ≡ Ok rows
unfolding parse_row_count
rows_read rows few =
    let back = from_le_bytes-to_le_bytes_4 rows (omega (arith, few)) in
    let room : nat_lt most_rows rows ≡ false = le-ltb _ _ few in
    rw (back, room) refl

length-bound_bytes : (n : ℤ) → length (bound_bytes n) ≡ 8
length-bound_bytes n = refl

bound_read : (n : ℤ) → FitsSigned w64 n → bound_in (bound_bytes n) ≡ n
bound_read n fits =
    let small : cast_unsigned w64 n < 2 ^ 64 = Fits-lt-pow (Fits-of_z fits) in
    rw (from_le_bytes-to_le_bytes_8 (cast_unsigned w64 n) small) (to_z-of_z w64 n fits)

bounds_read : (version : ℕ) (lo hi : ℤ) → FitsSigned w64 lo → FitsSigned w64 hi → are_bounds version lo hi ≡ true
    → parse_bounds version (bound_bytes lo ++ bound_bytes hi) ≡ Ok (record { lo = lo; hi = hi })
unfolding parse_bounds
bounds_read version lo hi low high ordered =
    let first : bound_in (take 8 (bound_bytes lo ++ bound_bytes hi)) ≡ lo = ap bound_in (take_at (bound_bytes lo) (bound_bytes hi) 8 (length-bound_bytes lo)) ∙ bound_read lo low in
    let second : bound_in (take 8 (drop 8 (bound_bytes lo ++ bound_bytes hi))) ≡ hi =
    ap (λ (l : List ℕ). bound_in (take 8 l)) (drop_at (bound_bytes lo) (bound_bytes hi) 8 (length-bound_bytes lo))
    ∙ ap bound_in (take_all 8 (bound_bytes hi) (omega (arith, length-bound_bytes hi))) ∙ bound_read hi high in
    rw (first, second, ordered) refl

new_name : (before : List (List ℕ)) (text : List ℕ) → is_name text ≡ true → list_any (λ (other : List ℕ). same_text other text) before ≡ false → parse_name before text ≡ Ok text
unfolding parse_name
new_name before text is apart = rw (is, apart) refl

name_reads : (before : List (List ℕ)) (text : List ℕ) → is_name text ≡ true → list_any (λ (other : List ℕ). same_text other text) before ≡ false → ReadsText (name before) (name_bytes text) text
unfolding name
name_reads before text is apart =
    text_there (name before) (λ at. field 1 >>= λ size. field (slice_index size 0) >>= λ bytes. parsed_at at (parse_name before bytes)) (name_bytes text) text (λ at bytes. refl) (λ at.
    text_then (field 1) (λ size. field (slice_index size 0) >>= λ bytes. parsed_at at (parse_name before bytes)) (length text ∷ []) text (length text ∷ []) text
    (field_reads 1 (length text ∷ []) refl) (said_reads at (length text) (parse_name before) text text refl (new_name before text is apart)))

column_reads : (version : ℕ) (before : List (List ℕ)) (c : ColumnShape) → IsColumn c → fits_version version c ≡ true
    → list_any (λ (other : List ℕ). same_text other c.name) before ≡ false → ReadsText (column version before) (schema_bytes c) c
unfolding column column_bytes
column_reads version before c is room apart =
    let bounds = bound_bytes c.lo ++ bound_bytes c.hi in
    let flag : List ℕ = flag_byte c.nullable ∷ [] in
    text_as (column version before) (name_bytes c.name ++ (bounds ++ flag)) (schema_bytes c) c (sym (append_assoc (name_bytes c.name) bounds flag))
    (text_then (name before) _ (name_bytes c.name) (bounds ++ flag) c.name c (name_reads before c.name is.name apart)
    (text_then (read_field 16 (parse_bounds version)) _ bounds flag (record { lo = c.lo; hi = c.hi }) c
    (read_field_reads 16 (parse_bounds version) bounds (record { lo = c.lo; hi = c.hi }) refl (bounds_read version c.lo c.hi is.lo is.hi room))
    (text_gives (read_field 1 parse_nullable) (λ nullable. shape c.name c.lo c.hi nullable) flag c.nullable
    (read_field_reads 1 parse_nullable flag c.nullable refl (nullable_read c.nullable)))))

-- a name among others that are apart is none of those before it
not_any : (a b : Bool) → (not (a || b)) ≡ true → (a ≡ false) × (b ≡ false)
not_any a b e = or_parts a b (not-true (a || b) e)

apart_there : (text name : List ℕ) (before after : List (List ℕ)) → not (list_any (same_text name) (before ++ text ∷ after)) ≡ true → same_text name text ≡ false
apart_there text name [] after e = (not_any (same_text name text) (list_any (same_text name) after) e).0
apart_there text name (other ∷ before) after e =
    apart_there text name before after (ap not (not_any (same_text name other) (list_any (same_text name) (before ++ text ∷ after)) e).1)

apart_before : (text : List ℕ) (before after : List (List ℕ)) → are_apart (before ++ text ∷ after) ≡ true → list_any (λ (other : List ℕ). same_text other text) before ≡ false
unfolding are_apart
apart_before text [] after e = refl
apart_before text (name ∷ before) after e =
    let p = both (not (list_any (same_text name) (before ++ text ∷ after))) (are_apart (before ++ text ∷ after)) e in
    ap₂ ◌||◌ (apart_there text name before after p.0) (apart_before text before after p.1)

names-more : (before : List ColumnShape) (c : ColumnShape) (more : List ColumnShape) → shape_names (before ++ c ∷ []) ++ shape_names more ≡ shape_names before ++ c.name ∷ shape_names more
names-more [] c more = refl
names-more (b ∷ before) c more = ap (λ (names : List (List ℕ)). b.name ∷ names) (names-more before c more)

columns_read : (version : ℕ) (before more : List ColumnShape) → All IsColumn more → list_all (fits_version version) more ≡ true
    → are_apart (shape_names before ++ shape_names more) ≡ true → ReadsText (columns version before (length more)) (flat_map schema_bytes more) (before ++ more)
unfolding columns
columns_read version before [] is room apart = record {
  reads = λ at rest.
      let there : at ≡ at + 0 = omega arith in
      ap₂ (λ (found : List ColumnShape) (n : ℕ). here found n rest) (sym (append-nil before)) there;
  needs = λ at. needs_none (columns version before 0) at;
}
columns_read version before (c ∷ more) is room apart =
    let fits = both (fits_version version c) (list_all (fits_version version) more) room in
    let next : are_apart (shape_names (before ++ c ∷ []) ++ shape_names more) ≡ true = ap are_apart (names-more before c more) ∙ apart in
    subst (ReadsText (columns version before (suc (length more))) (flat_map schema_bytes (c ∷ more))) (append_assoc before (c ∷ []) more)
    (text_then (column version (shape_names before)) (λ found. columns version (before ++ found ∷ []) (length more)) (schema_bytes c) (flat_map schema_bytes more) c ((before ++ c ∷ []) ++ more)
    (column_reads version (shape_names before) c (All-head IsColumn c more is) fits.0 (apart_before c.name (shape_names before) (shape_names more) apart))
    (columns_read version (before ++ c ∷ []) more (All-tail IsColumn c more is) fits.1 next))

front_reads : (order : FileOrder) (version : ℕ) (layout : Layout) (columns rows : ℕ) → is_version order version ≡ true → 1 ≤ columns → columns ≤ most_columns → rows ≤ most_rows
    → ReadsText (front order) (front_bytes order version layout columns rows) (front_of version layout columns rows)
unfolding front front_bytes
front_reads order version layout count rows is some limited few =
    let two : List ℕ = version ∷ layout_byte layout ∷ [] in
    let counted = to_le_bytes w16 count in
    let told = to_le_bytes w32 rows in
    let found = front_of version layout count rows in
    text_as (front order) (magic order ++ (two ++ (counted ++ told))) (magic order ++ two ++ counted ++ told) found
    (sym (append_assoc (magic order) two (counted ++ told)) ∙ sym (append_assoc (magic order ++ two) counted told))
    (text_then (read_field 8 (parse_magic order)) _ (magic order) (two ++ (counted ++ told)) tt found (read_field_reads 8 (parse_magic order) (magic order) tt (length-magic order) (magic_read order))
    (text_then (read_field 1 (parse_version order)) _ (version ∷ []) (layout_byte layout ∷ (counted ++ told)) version found (read_field_reads 1 (parse_version order) (version ∷ []) version refl (version_read order version is))
    (text_then (read_field 1 parse_layout) _ (layout_byte layout ∷ []) (counted ++ told) layout found (read_field_reads 1 parse_layout (layout_byte layout ∷ []) layout refl (layout_read layout))
    (text_then (read_field 2 parse_count) _ counted told count found (read_field_reads 2 parse_count counted count refl (count_read count some limited))
    (text_gives (read_field 4 parse_row_count) (λ rows. front_of version layout count rows) told rows (read_field_reads 4 parse_row_count told rows refl (rows_read rows few)))))))

-- a header, and what stands in a schema beside its shape
pub record IsWhole (order : FileOrder) (h : HeaderShape) : Type 0 where
  pub header : IsHeader order h
  pub nonempty : 1 ≤ length h.schema.columns
  pub limited : length h.schema.columns ≤ most_columns
  pub apart : are_apart (shape_names h.schema.columns) ≡ true

pub header_reads : (order : FileOrder) (h : HeaderShape) → IsWhole order h → ReadsText (header_in order) (head_bytes order h) h
unfolding header_in
header_reads order h is =
    let columns_of = h.schema.columns in
    let count = length columns_of in
    let first = front_bytes order h.version h.layout count h.rows in
    let named = name_bytes h.schema.name in
    let found = front_of h.version h.layout count h.rows in
    let texts = flat_map schema_bytes columns_of in
    text_as (header_in order) (first ++ (named ++ texts)) (first ++ named ++ texts) h (sym (append_assoc first named texts))
    (text_then (front order) _ first (named ++ texts) found h (front_reads order h.version h.layout count h.rows is.header.version is.nonempty is.limited is.header.within_limit)
    (text_then (name []) _ named texts h.schema.name h (name_reads [] h.schema.name is.header.schema.name refl)
    (text_gives (columns h.version [] count) (λ columns. header_of found h.schema.name columns) texts columns_of
    (columns_read h.version [] columns_of is.header.schema.columns is.header.bounds is.apart))))
