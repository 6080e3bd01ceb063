-- Reading a header field by field.
use Rattle.std.proofs.Common.{◌≡◌, ◌+◌, ◌-◌, ◌<◌, ◌≤◌, map, ℕ, ℤ, suc, Bool, true, false, List, []}
use Rattle.std.proofs.Common.{◌∷◌, ◌++◌, slice_index, Ok, Err, refl, sym, ap, ◌∙◌, arith, ◌||◌, not}
use Rattle.std.specs.List.{list_any}
use Rattle.bw_model.specs.declared.column.Column.{Column}
use Rattle.bw_model.specs.declared.fault.Fault.{Fault}
use Rattle.bw_model.specs.Column.{names_of}
use Rattle.bw_text.specs.Text.{same_text}
use Rattle.bw_model.specs.Fault.{at_byte}
use Rattle.bw_model.specs.SchemaText.{ColumnShape, column_shape, shape, shape_names}
use Rattle.bw_file.specs.declared.fields.Bounds.{Bounds}
use Rattle.bw_file.specs.declared.layout.Layout.{Layout}
use Rattle.bw_file.specs.Reading.{◌>>=◌, give, field, parsed_at, read_field, State, GoesOn, Fails}
use Rattle.bw_file.specs.TableReading.{name, parse_name, column, columns, parse_magic}
use Rattle.bw_file.specs.TableReading.{parse_version, parse_layout, parse_count, parse_row_count}
use Rattle.bw_file.specs.TableReading.{parse_bounds, parse_nullable, FrontShape, front_of, front}
use Rattle.bw_file.specs.declared.order.FileOrder.{FileOrder}
use Rattle.bw_file.specs.TableReading.{header_of, header_in}
use Rattle.bw_file.proofs.ReadingLemmas.{took_nothing, needs_none, begins, passes, stops, refuses}
use Rattle.bw_model.proofs.SchemaLemmas.{shape_names-of}

-- a name begins with the byte for its length
pub name_begins : (before : List (List ℕ)) (old : State)
    → GoesOn (name before) old (field 1 >>= λ size. field (slice_index size 0) >>= λ text. parsed_at old.offset (parse_name before text)) old
unfolding name
name_begins before old = record { bytes = []; took = took_nothing old.known old.offset old.failures; needed = needs_none (name before) old.offset; failures = refl; on = λ rest. refl }

-- which is read, and then its text
pub name_sized : (before : List (List ℕ)) (size : List ℕ) (old new : State) → GoesOn (field 1) old (give size) new
    → GoesOn (name before) old (field (slice_index size 0) >>= λ text. parsed_at old.offset (parse_name before text)) new
name_sized before size old new p = passes (name before) (field 1) _ size old old new (name_begins before old) p

pub name_judged : (before : List (List ℕ)) (size text : List ℕ) (count : ℕ) (old mid new : State) → GoesOn (field 1) old (give size) mid
    → GoesOn (field count) mid (give text) new → count ≡ slice_index size 0
    → GoesOn (name before) old (parsed_at old.offset (parse_name before text)) new
name_judged before size text count old mid new p q e =
    passes (name before) (field (slice_index size 0)) _ text old mid new (name_sized before size old mid p) (rw e at q)

pub name_taken : (before : List (List ℕ)) (text : List ℕ) (old new : State) → GoesOn (name before) old (parsed_at old.offset (parse_name before text)) new
    → parse_name before text ≡ Ok text → GoesOn (name before) old (give text) new
name_taken before text old new p e = rw e at p

pub name_refused : (before : List (List ℕ)) (text : List ℕ) (old new : State) → GoesOn (name before) old (parsed_at old.offset (parse_name before text)) new
    → parse_name before text ≡ Err 304 → Fails (name before) old new (at_byte 304 old.offset)
name_refused before text old new p e = refuses (name before) (parsed_at old.offset (Err 304)) old new 304 old.offset (rw e at p) (λ rest. refl)

-- a name of some column is some column's name
pub list_any_names : (columns : List Column) (text : List ℕ) → list_any (λ (other : List ℕ). same_text other text) (names_of columns) ≡ list_any (λ (c : Column). same_text c.name text) columns
list_any_names [] text = refl
list_any_names (c ∷ columns) text = ap (λ (b : Bool). same_text c.name text || b) (list_any_names columns text)

pub name_stops : (before : List (List ℕ)) (size : List ℕ) (count : ℕ) (old mid new : State) (fault : Fault) → GoesOn (field 1) old (give size) mid
    → Fails (field count) mid new fault → count ≡ slice_index size 0 → Fails (name before) old new fault
name_stops before size count old mid new fault p q e =
    stops (name before) (field (slice_index size 0)) (λ text. parsed_at old.offset (parse_name before text)) old mid new fault (name_sized before size old mid p) (rw e at q)

pub apart_from : (has : Bool) (columns : List Column) (text : List ℕ) → has ≡ list_any (λ (c : Column). same_text c.name text) columns → not has ≡ true
    → list_any (λ (other : List ℕ). same_text other text) (names_of columns) ≡ false
apart_from true columns text e h = absurd (cc h)
apart_from false columns text e h = list_any_names columns text ∙ sym e

-- a column is its name, then its bounds, and then whether it takes null
pub column_named : (version : ℕ) (before : List (List ℕ)) (text : List ℕ) (old mid : State) → GoesOn (name before) old (give text) mid
    → GoesOn (column version before) old (read_field 16 (parse_bounds version) >>= λ bounds. read_field 1 parse_nullable >>= λ nullable. give (shape text bounds.lo bounds.hi nullable)) mid
unfolding column
column_named version before text old mid p =
    passes (column version before) (name before) (λ text. read_field 16 (parse_bounds version) >>= λ bounds. read_field 1 parse_nullable >>= λ nullable. give (shape text bounds.lo bounds.hi nullable))
    text old old mid (begins (column version before) old) p

pub column_bounded : (version : ℕ) (before : List (List ℕ)) (text : List ℕ) (bounds : Bounds) (old a b : State) → GoesOn (name before) old (give text) a
    → GoesOn (read_field 16 (parse_bounds version)) a (give bounds) b
    → GoesOn (column version before) old (read_field 1 parse_nullable >>= λ nullable. give (shape text bounds.lo bounds.hi nullable)) b
column_bounded version before text bounds old a b p q =
    passes (column version before) (read_field 16 (parse_bounds version)) (λ bounds. read_field 1 parse_nullable >>= λ nullable. give (shape text bounds.lo bounds.hi nullable))
    bounds old a b (column_named version before text old a p) q

pub column_read : (version : ℕ) (before : List (List ℕ)) (text : List ℕ) (bounds : Bounds) (nullable : Bool) (lo hi : ℤ) (old a b new : State)
    → lo ≡ bounds.lo → hi ≡ bounds.hi → GoesOn (name before) old (give text) a
    → GoesOn (read_field 16 (parse_bounds version)) a (give bounds) b → GoesOn (read_field 1 parse_nullable) b (give nullable) new
    → GoesOn (column version before) old (give (shape text lo hi nullable)) new
column_read version before text bounds nullable lo hi old a b new same_lo same_hi p q r =
    rw (same_lo, same_hi) (passes (column version before) (read_field 1 parse_nullable) (λ nullable. give (shape text bounds.lo bounds.hi nullable))
    nullable old b new (column_bounded version before text bounds old a b p q) r)

-- the columns of a header, one after another
pub columns_begin : (version count : ℕ) (old : State) → GoesOn (columns version [] count) old (columns version [] (count - 0)) old
columns_begin version count old = let e : count - 0 ≡ count = omega arith in rw e (begins (columns version [] count) old)

pub columns_more : (version count i : ℕ) (before : List ColumnShape) (next : ColumnShape) (names : List (List ℕ)) (old mid new : State) → i < count → names ≡ shape_names before
    → GoesOn (columns version [] count) old (columns version before (count - i)) mid → GoesOn (column version names) mid (give next) new
    → GoesOn (columns version [] count) old (columns version (before ++ next ∷ []) (count - (i + 1))) new
unfolding columns
columns_more version count i before next names old mid new lt same p q =
    let e : count - i ≡ suc (count - (i + 1)) = omega arith in
    let so_far : GoesOn (columns version [] count) old (columns version before (suc (count - (i + 1)))) mid = rw e at p in
    passes (columns version [] count) (column version (shape_names before)) (λ next. columns version (before ++ next ∷ []) (count - (i + 1))) next old mid new so_far (rw same at q)

pub columns_stop : (version count i : ℕ) (before : List ColumnShape) (names : List (List ℕ)) (old mid new : State) (fault : Fault) → i < count → names ≡ shape_names before
    → GoesOn (columns version [] count) old (columns version before (count - i)) mid → Fails (column version names) mid new fault
    → Fails (columns version [] count) old new fault
unfolding columns
columns_stop version count i before names old mid new fault lt same p q =
    let e : count - i ≡ suc (count - (i + 1)) = omega arith in
    let so_far : GoesOn (columns version [] count) old (columns version before (suc (count - (i + 1)))) mid = rw e at p in
    stops (columns version [] count) (column version (shape_names before)) (λ next. columns version (before ++ next ∷ []) (count - (i + 1))) old mid new fault so_far (rw same at q)

pub columns_read : (version count i : ℕ) (before : List ColumnShape) (old new : State) → count ≤ i
    → GoesOn (columns version [] count) old (columns version before (count - i)) new → GoesOn (columns version [] count) old (give before) new
unfolding columns
columns_read version count i before old new le p =
    let e : count - i ≡ 0 = omega arith in rw e at p

-- the names of columns that are found in a slice of the same ones
pub names_in : (slice found : List Column) → slice ≡ found → names_of slice ≡ shape_names (map column_shape found)
names_in slice found e = ap names_of e ∙ sym (shape_names-of found)

-- the sixteen bytes of the front
pub magic_read : (order : FileOrder) → (old a : State) → GoesOn (read_field 8 (parse_magic order)) old (give tt) a
    → GoesOn (front order) old (read_field 1 (parse_version order) >>= λ version. read_field 1 parse_layout >>= λ layout. read_field 2 parse_count >>= λ count. read_field 4 parse_row_count >>= λ rows.
    give (front_of version layout count rows)) a
unfolding front
magic_read order old a p =
    passes (front order) (read_field 8 (parse_magic order)) (λ _. read_field 1 (parse_version order) >>= λ version. read_field 1 parse_layout >>= λ layout. read_field 2 parse_count >>= λ count. read_field 4 parse_row_count >>= λ rows.
    give (front_of version layout count rows)) tt old old a (begins (front order) old) p

pub version_read : (order : FileOrder) → (version : ℕ) (old a b : State) → GoesOn (read_field 8 (parse_magic order)) old (give tt) a → GoesOn (read_field 1 (parse_version order)) a (give version) b
    → GoesOn (front order) old (read_field 1 parse_layout >>= λ layout. read_field 2 parse_count >>= λ count. read_field 4 parse_row_count >>= λ rows. give (front_of version layout count rows)) b
version_read order version old a b p q = passes (front order) (read_field 1 (parse_version order)) _ version old a b (magic_read order old a p) q

pub layout_read : (order : FileOrder) → (version : ℕ) (layout : Layout) (old a b c : State) → GoesOn (read_field 8 (parse_magic order)) old (give tt) a → GoesOn (read_field 1 (parse_version order)) a (give version) b
    → GoesOn (read_field 1 parse_layout) b (give layout) c
    → GoesOn (front order) old (read_field 2 parse_count >>= λ count. read_field 4 parse_row_count >>= λ rows. give (front_of version layout count rows)) c
layout_read order version layout old a b c p q r = passes (front order) (read_field 1 parse_layout) _ layout old b c (version_read order version old a b p q) r

pub count_read : (order : FileOrder) → (version : ℕ) (layout : Layout) (count : ℕ) (old a b c d : State) → GoesOn (read_field 8 (parse_magic order)) old (give tt) a
    → GoesOn (read_field 1 (parse_version order)) a (give version) b → GoesOn (read_field 1 parse_layout) b (give layout) c → GoesOn (read_field 2 parse_count) c (give count) d
    → GoesOn (front order) old (read_field 4 parse_row_count >>= λ rows. give (front_of version layout count rows)) d
count_read order version layout count old a b c d p q r s = passes (front order) (read_field 2 parse_count) _ count old c d (layout_read order version layout old a b c p q r) s

pub front_read : (order : FileOrder) → (version : ℕ) (layout : Layout) (count rows : ℕ) (old a b c d e : State) → GoesOn (read_field 8 (parse_magic order)) old (give tt) a
    → GoesOn (read_field 1 (parse_version order)) a (give version) b → GoesOn (read_field 1 parse_layout) b (give layout) c → GoesOn (read_field 2 parse_count) c (give count) d
    → GoesOn (read_field 4 parse_row_count) d (give rows) e → GoesOn (front order) old (give (front_of version layout count rows)) e
front_read order version layout count rows old a b c d e p q r s t = passes (front order) (read_field 4 parse_row_count) _ rows old d e (count_read order version layout count old a b c d p q r s) t

-- the header: its front, the table's name, and the columns
pub header_fronted : (order : FileOrder) → (first : FrontShape) (old a : State) → GoesOn (front order) old (give first) a
    → GoesOn (header_in order) old (name [] >>= λ text. columns first.version [] first.columns >>= λ found. give (header_of first text found)) a
unfolding header_in
header_fronted order first old a p =
    passes (header_in order) (front order) (λ first. name [] >>= λ text. columns first.version [] first.columns >>= λ found. give (header_of first text found)) first old old a (begins (header_in order) old) p

pub header_named : (order : FileOrder) → (first : FrontShape) (text : List ℕ) (old a b : State) → GoesOn (front order) old (give first) a → GoesOn (name []) a (give text) b
    → GoesOn (header_in order) old (columns first.version [] first.columns >>= λ found. give (header_of first text found)) b
header_named order first text old a b p q = passes (header_in order) (name []) _ text old a b (header_fronted order first old a p) q

pub header_read : (order : FileOrder) → (first : FrontShape) (text : List ℕ) (found : List ColumnShape) (old a b new : State) → GoesOn (front order) old (give first) a → GoesOn (name []) a (give text) b
    → GoesOn (columns first.version [] first.columns) b (give found) new → GoesOn (header_in order) old (give (header_of first text found)) new
header_read order first text found old a b new p q r = passes (header_in order) (columns first.version [] first.columns) _ found old b new (header_named order first text old a b p q) r
