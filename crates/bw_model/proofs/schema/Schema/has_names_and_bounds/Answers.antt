-- All columns were looked at, and bounds are in order by their type.
use Rattle.std.proofs.Common.{◌≡◌, true, refl, subst, All, List, [], ◌∷◌, length, ◌≤◌, ℕ, take}
use Rattle.std.specs.List.{list_all}
use Rattle.std.proofs.lemmas.List.{take_all}
use Rattle.std.proofs.lemmas.List.Elements.{All-head, All-tail, All-more, All-map}
use Rattle.bw_model.specs.declared.column.Column.{Column}
use Rattle.bw_model.specs.Column.{names_of}
use Rattle.bw_model.specs.Name.{is_name}
use Rattle.bw_model.specs.Schema.{IsColumn}
use Rattle.bw_model.specs.SchemaText.{column_shape, is_range}
use Rattle.bw_model.proofs.schema.Schema.has_names_and_bounds.Goals as goal
use Rattle.bw_model.proofs.SchemaLemmas.{in_range}

abbrev IsOne : Column → Type 0
IsOne column = IsColumn (column_shape column)

named : (columns : List Column) → All IsOne columns → list_all is_name (names_of columns) ≡ true
named [] are = refl
named (column ∷ columns) are =
    let first : IsOne column = All-head IsOne column columns are in
    rw (first.name, named columns (All-tail IsOne column columns are)) refl

ranged : (columns : List Column) → list_all (λ (column : Column). is_range column.lo column.hi) columns ≡ true
ranged [] = refl
ranged (column ∷ columns) = rw (in_range column, ranged columns) refl

pub loop-column-preserved : goal.loop-column-preserved
loop-column-preserved c =
    let columns = c.args.self.now.columns.items in
    let same = c.deref-column-items.ensures.value in
    let column = c.column-item.result in
    let is = rw same at c.column-item.is in
    All-more IsOne columns c.loop-column.column-index column (rw same at c.loop-column-test.true) c.loop-column.invariant (subst IsOne is c.has_name_and_bounds.ensures)

all_looked_at : (columns : List Column) (i : ℕ) → length columns ≤ i → All IsOne (take i columns) → All IsOne columns
all_looked_at columns i all are = subst (All IsOne) (take_all i columns all) are

pub returns : goal.returns
returns c =
    let columns = c.args.self.now.columns.items in
    let are = all_looked_at columns c.loop-column.column-index (rw c.deref-column-items.ensures.value at c.loop-column-test.false) c.loop-column.invariant in
    record {
      schema = record { name = rw c.as_bytes-name.ensures.spelling at c.as_bytes-name.ensures.name; columns = All-map IsColumn column_shape columns are };
      names = named columns are;
      ranges = ranged columns;
    }
