-- What is rejected of a table file is rejected by one of its own errors.
use Rattle.std.proofs.Common.{◌≡◌, ◌∙◌, ap, refl, subst, ℕ, zero, suc, ◌+◌, ◌-◌, ◌++◌, ◌∷◌, []}
use Rattle.std.proofs.Common.{Bool, true, false, not, ◌||◌, ◌&&◌, ◌==◌, List, Option, Some, None}
use Rattle.std.proofs.Common.{Result, Ok, Err, if◌then◌else◌, IfErr, nat_lt, nat_le, slice_index}
use Rattle.std.proofs.Common.{inl, inr, length, IfSome, slice_index_or}
use Rattle.std.proofs.Math.Bool.{or-true}
use Rattle.std.proofs.lemmas.Bool.{cases_Bool}
use Rattle.bw_model.specs.declared.column.Column.{Column}
use Rattle.bw_model.specs.declared.fault.Fault.{Fault}
use Rattle.bw_model.specs.Fault.{at_byte, is_memory}
use Rattle.bw_model.specs.Groups.{group_size}
use Rattle.bw_model.specs.SchemaText.{ColumnShape, shape_names}
use Rattle.bw_io.specs.Source.{is_read_fault, is_input_fault}
use Rattle.bw_segment.specs.BlockFault.{or_else, padding_fault, row_fault, first_fault, lanes_fault}
use Rattle.bw_segment.specs.BlockFault as faults
use Rattle.bw_file.specs.declared.layout.Layout.{Layout}
use Rattle.bw_file.specs.declared.order.FileOrder.{FileOrder}
use Rattle.bw_file.specs.declared.layout.Layout.TheVariants.{Planes, Slices}
use Rattle.bw_file.specs.Blocks.{block_fault}
use Rattle.bw_file.specs.Reading.{Tail, tail, Reading, and_then, ◌>>=◌, field, parsed_at, read_field}
use Rattle.bw_file.specs.Reading.{State, Fails, HasByteMore}
use Rattle.bw_file.specs.TableReading.{parse_magic, parse_version, parse_layout, parse_count}
use Rattle.bw_file.specs.TableReading.{parse_row_count, parse_bounds, parse_nullable, parse_name}
use Rattle.bw_file.specs.TableReading.{name, column, columns, front, header_in, fault_place, sound_at}
use Rattle.bw_file.specs.TableReading.{one_block, blocks, segment, IsTableFault}

-- a number that is one of them wherever it is, and reading that rejects by them alone
abbrev pub IsOwn : ℕ → Type 0
IsOwn code = (at : ℕ) → IsTableFault (at_byte code at)

abbrev RefusesOwn : {A : Type 0} → Reading A → Type 0
RefusesOwn reading = (t : Tail) → IfErr (reading t) IsTableFault

passed_own : {A B : Type 0} (first : Result (A × Tail) Fault) (next : A → Reading B) → IfErr first IsTableFault → ((x : A) → RefusesOwn (next x))
    → IfErr (and_then first next) IsTableFault
passed_own (Ok x) next here there = there x.0 x.1
passed_own (Err fault) next here there = here

then_own : {A B : Type 0} (first : Reading A) (next : A → Reading B) → RefusesOwn first → ((x : A) → RefusesOwn (next x)) → RefusesOwn (first >>= next)
then_own first next here there t = passed_own (first t) next (here t) there

field_own : (size : ℕ) → RefusesOwn (field size)
unfolding field
field_own size t = elim (cases_Bool (nat_lt (length t.bytes) size)) [ inl e ↦ rw e refl | inr e ↦ rw e tt ]

said_own : {A : Type 0} (at : ℕ) (said : Result A ℕ) → IfErr said IsOwn → RefusesOwn (parsed_at at said)
said_own at (Ok x) own t = tt
said_own at (Err code) own t = own at

read_field_own : {A : Type 0} (size : ℕ) (says : List ℕ → Result A ℕ) → ((bytes : List ℕ) → IfErr (says bytes) IsOwn) → RefusesOwn (read_field size says)
unfolding read_field
read_field_own size says own t = then_own (field size) (λ bytes. parsed_at t.at (says bytes)) (field_own size) (λ bytes. said_own t.at (says bytes) (own bytes)) t

-- one thing or another said
if_own : {A : Type 0} (b : Bool) (first second : Result A ℕ) → IfErr first IsOwn → IfErr second IsOwn → IfErr (if b then first else second) IsOwn
if_own true first second here there = here
if_own false first second here there = there

magic_own : (order : FileOrder) (bytes : List ℕ) → IfErr (parse_magic order bytes) IsOwn
unfolding parse_magic
magic_own order bytes = if_own _ (Ok _) (Err 301) tt (λ _. refl)

version_own : (order : FileOrder) (bytes : List ℕ) → IfErr (parse_version order bytes) IsOwn
unfolding parse_version
version_own order bytes = if_own _ (Ok _) (Err 302) tt (λ _. refl)

layout_own : (bytes : List ℕ) → IfErr (parse_layout bytes) IsOwn
unfolding parse_layout
layout_own bytes =
    if_own (slice_index bytes 0 == 0) (Ok Planes) (if slice_index bytes 0 == 1 then Ok Slices else Err 303) tt (if_own _ (Ok Slices) (Err 303) tt (λ _. refl))

count_own : (bytes : List ℕ) → IfErr (parse_count bytes) IsOwn
unfolding parse_count
count_own bytes = if_own _ (Err 304) (Ok _) (λ _. refl) tt

rows_own : (bytes : List ℕ) → IfErr (parse_row_count bytes) IsOwn
unfolding parse_row_count
rows_own bytes = if_own _ (Err 310) (Ok _) (λ _. refl) tt

bounds_own : (version : ℕ) (bytes : List ℕ) → IfErr (parse_bounds version bytes) IsOwn
unfolding parse_bounds
bounds_own version bytes = if_own _ (Ok _) (Err 304) tt (λ _. refl)

nullable_own : (bytes : List ℕ) → IfErr (parse_nullable bytes) IsOwn
unfolding parse_nullable
nullable_own bytes =
    if_own (slice_index bytes 0 == 0) (Ok false) (if slice_index bytes 0 == 1 then Ok true else Err 304) tt (if_own _ (Ok true) (Err 304) tt (λ _. refl))

name_said : (before : List (List ℕ)) (text : List ℕ) → IfErr (parse_name before text) IsOwn
unfolding parse_name
name_said before text = if_own _ (Err 304) (Ok _) (λ _. refl) tt

name_own : (before : List (List ℕ)) → RefusesOwn (name before)
unfolding name
name_own before t = then_own _ _ (field_own 1) (λ size. then_own _ _ (field_own _) (λ text. said_own t.at (parse_name before text) (name_said before text))) t

column_own : (version : ℕ) (before : List (List ℕ)) → RefusesOwn (column version before)
unfolding column
column_own version before = then_own _ _ (name_own before) (λ text. then_own _ _ (read_field_own 16 (parse_bounds version) (bounds_own version))
    (λ bounds. then_own _ _ (read_field_own 1 parse_nullable nullable_own) (λ nullable t. tt)))

columns_own : (version : ℕ) (before : List ColumnShape) (count : ℕ) → RefusesOwn (columns version before count)
unfolding columns
columns_own version before zero = λ t. tt
columns_own version before (suc count) = then_own _ _ (column_own version (shape_names before)) (λ next. columns_own version (before ++ next ∷ []) count)

front_own : (order : FileOrder) → RefusesOwn (front order)
unfolding front
front_own order = then_own _ _ (read_field_own 8 (parse_magic order) (magic_own order)) (λ _. then_own _ _ (read_field_own 1 (parse_version order) (version_own order))
    (λ version. then_own _ _ (read_field_own 1 parse_layout layout_own) (λ layout. then_own _ _ (read_field_own 2 parse_count count_own)
    (λ count. then_own _ _ (read_field_own 4 parse_row_count rows_own) (λ rows t. tt)))))

pub header_own : (order : FileOrder) → RefusesOwn (header_in order)
unfolding header_in
header_own order = then_own _ _ (front_own order) (λ first. then_own _ _ (name_own []) (λ text. then_own _ _ (columns_own first.version [] first.columns) (λ found t. tt)))

-- the error of a block, if it has one
some_own : (b : Bool) (code : ℕ) (other : Option ℕ) → IsOwn code → IfSome other IsOwn → IfSome (if b then Some code else other) IsOwn
some_own true code other here there = here
some_own false code other here there = there

or_own : (one other : Option ℕ) → IfSome one IsOwn → IfSome other IsOwn → IfSome (or_else one other) IsOwn
or_own None other here there = there
or_own (Some code) other here there = here

first_own : (fault : ℕ → Option ℕ) (rows : ℕ) → ((row : ℕ) → IfSome (fault row) IsOwn) → IfSome (first_fault fault rows) IsOwn
first_own fault zero own = tt
first_own fault (suc row) own = or_own (first_fault fault row) (fault row) (first_own fault row own) (own row)

padding_own : (null : Bool) (code : ℕ) → IfSome (padding_fault null code) IsOwn
padding_own null code = some_own (null || not (code == 0)) 308 None (λ _. refl) tt

row_own : (span : ℕ) (null : Bool) (code : ℕ) → IfSome (row_fault span null code) IsOwn
row_own span null code =
    some_own (null && not (code == 0)) 307 (if nat_lt span code then Some 306 else None) (λ _. refl) (some_own (nat_lt span code) 306 None (λ _. refl) tt)

lanes_own : (span count : ℕ) (nulls : List Bool) (codes : List ℕ) → IfSome (lanes_fault span count nulls codes) IsOwn
unfolding lanes_fault
lanes_own span count nulls codes =
    or_own _ _
    (first_own _ (group_size - count) (λ row. padding_own (slice_index_or nulls (count + row) false) (slice_index codes (count + row))))
    (first_own _ count (λ row. row_own span (slice_index_or nulls row false) (slice_index codes row)))

pub block_own : (layout : Layout) (schema : List Column) (number rows : ℕ) (bytes : List ℕ) → IfSome (block_fault layout schema number rows bytes) IsOwn
unfolding faults.block_fault
block_own layout schema number rows bytes = lanes_own _ rows _ _

sound_own : (at : ℕ) (layout : Layout) (schema : List Column) (rows number : ℕ) (block : List ℕ) (code : Option ℕ) → IfSome code IsOwn
    → RefusesOwn (sound_at at layout schema rows number block code)
sound_own at layout schema rows number block None own t = tt
sound_own at layout schema rows number block (Some code) own t = own (at + fault_place layout schema rows number block code)

one_own : (layout : Layout) (schema : List Column) (rows number : ℕ) → RefusesOwn (one_block layout schema rows number)
unfolding one_block
one_own layout schema rows number t =
    then_own _ _ (field_own _) (λ bytes. sound_own t.at layout schema rows number bytes _ (block_own layout schema number rows bytes)) t

blocks_own : (layout : Layout) (schema : List Column) (rows number more : ℕ) (before : List ℕ) → RefusesOwn (blocks layout schema rows number more before)
unfolding blocks
blocks_own layout schema rows number zero before = λ t. tt
blocks_own layout schema rows number (suc more) before =
    then_own _ _ (one_own layout schema rows number) (λ bytes. blocks_own layout schema rows (suc number) more (before ++ bytes))

pub segment_own : (layout : Layout) (schema : List Column) (rows : ℕ) → RefusesOwn (segment layout schema rows)
unfolding segment
segment_own layout schema rows = then_own _ _ (blocks_own layout schema rows 0 _ []) (λ bytes t. tt)

-- a failed read and out of memory are among them
input_own : (fault : Fault) → is_input_fault fault ≡ true → IsTableFault fault
input_own fault e = ap (λ b. (nat_le 301 fault.code && nat_le fault.code 310) || b) e ∙ or-true (nat_le 301 fault.code && nat_le fault.code 310)

-- so whatever a call that reads so answers is one of them, and so is a byte more than is wanted
pub refused_by : {A : Type 0} (reading : Reading A) (old new : State) (fault : Fault) → RefusesOwn reading → Fails reading old new fault → IsTableFault fault
refused_by reading old new fault own p = elim (cases_Bool (is_input_fault fault)) [
  | inl e ↦ input_own fault e
  | inr e ↦ (let has = p.refused e in subst (λ r. IfErr r IsTableFault) has.gives (own (tail old.offset (p.bytes ++ has.rest))))
]

pub byte_own : (old new : State) (fault : Fault) → HasByteMore old new fault → IsTableFault fault
byte_own old new fault p = elim (cases_Bool (is_read_fault fault)) [
  | inl e ↦ input_own fault (ap (λ b. is_memory fault || b) e ∙ or-true (is_memory fault))
  | inr e ↦ rw (p.refused e).1 refl
]
