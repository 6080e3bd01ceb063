-- One column more was read.
use Rattle.std.proofs.Common.{arith, ap, sym, subst, ◌≡◌, ◌∙◌, length, Vec, Global}
use Rattle.std.proofs.lemmas.List.{get_or-set_same, length-set}
use Rattle.bw_ranges.specs.declared.column_range.ColumnRange.{ColumnRange}
use Rattle.bw_memory.specs.Columnar.{table_in}
use Rattle.bw_model.specs.declared.schema.Schema.{Schema}
use Rattle.bw_memory.specs.declared.column_state.ColumnState.TheVariants as state
use Rattle.bw_memory.proofs.FileColumnsLemmas.{blank_else, damage_stays, have_more}
use Rattle.bw_memory.proofs.KeptRanges.{have_ranges}
use Rattle.bw_memory.specs.MemoryTable.{schema_of}
use Rattle.bw_memory.specs.Ranges.{AreRangesOf}
use Rattle.bw_memory.specs.declared.table.MemoryTable.{MemoryTable}
use Rattle.bw_memory.proofs.file_columns.FileColumns.store.Goals as goal

pub invariant_of-self-clause-all : goal.invariant_of-self-clause-all
invariant_of-self-clause-all g c =
    let self = c.args.self.now in
    let same = (c.put_column.ensures (g.D.RandomAccess.state self.device).known c.requires.blocks).same in
    length-set self.states.items c.args.column state.Read ∙ self.all ∙ sym (ap (λ (s : Schema). length s.columns.items) same.schema)

pub invariant_of-self-clause-have : goal.invariant_of-self-clause-have
invariant_of-self-clause-have g c =
    let self = c.args.self.now in
    let known = (g.D.RandomAccess.state self.device).known in
    have_more known self.columnar c.put_column.new.self c.args.column (c.put_column.ensures known c.requires.blocks) self.states.items (omega (arith, c.requires.column, self.all)) self.have

pub invariant_of-self-clause-blank : goal.invariant_of-self-clause-blank
invariant_of-self-clause-blank g c =
    let self = c.args.self.now in
    let known = (g.D.RandomAccess.state self.device).known in
    blank_else known self.columnar c.put_column.new.self c.args.column (c.put_column.ensures known c.requires.blocks) self.states.items (omega (arith, c.requires.column, self.all)) self.blank

pub invariant_of-self-clause-damage : goal.invariant_of-self-clause-damage
invariant_of-self-clause-damage g c =
    let self = c.args.self.now in
    let known = (g.D.RandomAccess.state self.device).known in
    damage_stays known self.columnar c.put_column.new.self c.args.column (c.put_column.ensures known c.requires.blocks) self.states.items (omega (arith, c.requires.column, self.all)) self.damage

pub returns-clause-read : goal.returns-clause-read
returns-clause-read g c = c.put_column.ensures (g.D.RandomAccess.state c.args.self.now.device).known c.requires.blocks

pub ranges_of-requires : goal.ranges_of-requires
ranges_of-requires g c =
    let same = (c.put_column.ensures (g.D.RandomAccess.state c.args.self.now.device).known c.requires.blocks).same in
    omega (arith, c.requires.column, ap (λ (s : Schema). length s.columns.items) same.schema, ap (λ (t : MemoryTable). length (schema_of t).columns.items) c.table.ensures)

pub invariant_of-self-clause-lists : goal.invariant_of-self-clause-lists
invariant_of-self-clause-lists g c =
    let self = c.args.self.now in
    let same = (c.put_column.ensures (g.D.RandomAccess.state self.device).known c.requires.blocks).same in
    length-set self.ranges.items c.args.column c.ranges_of.result ∙ self.lists ∙ sym (ap (λ (s : Schema). length s.columns.items) same.schema)

pub invariant_of-self-clause-ranged : goal.invariant_of-self-clause-ranged
invariant_of-self-clause-ranged g c =
    let self = c.args.self.now in
    let known = (g.D.RandomAccess.state self.device).known in
    have_ranges 4 known self.columnar c.put_column.new.self c.args.column (c.put_column.ensures known c.requires.blocks) self.ranges.items c.ranges_of.result self.lists c.requires.column self.ranged
    (subst (λ (t : MemoryTable). AreRangesOf 4 t c.args.column c.ranges_of.result.items) c.table.ensures c.ranges_of.ensures)

pub invariant_of-self-clause-wide_lists : goal.invariant_of-self-clause-wide_lists
invariant_of-self-clause-wide_lists g c =
    let self = c.args.self.now in
    let same = (c.put_column.ensures (g.D.RandomAccess.state self.device).known c.requires.blocks).same in
    length-set self.wide_ranges.items c.args.column c.wide_ranges_of.result ∙ self.wide_lists ∙ sym (ap (λ (s : Schema). length s.columns.items) same.schema)

pub invariant_of-self-clause-wide_ranged : goal.invariant_of-self-clause-wide_ranged
invariant_of-self-clause-wide_ranged g c =
    let self = c.args.self.now in
    let known = (g.D.RandomAccess.state self.device).known in
    let new = c.put_column.new.self in
    let list = c.index.result.now in
    let its : c.ranges_of.result.items ≡ c.deref.result.now =
    sym (c.deref.ensures.value ∙ ap (λ (v : Vec ColumnRange Global). v.items) (c.index.ensures ∙ get_or-set_same self.ranges.items c.args.column c.ranges_of.result list (omega (arith, c.requires.column, self.lists)))) in
    have_ranges 64 known self.columnar new c.args.column (c.put_column.ensures known c.requires.blocks) self.wide_ranges.items c.wide_ranges_of.result self.wide_lists c.requires.column self.wide_ranged
    (c.wide_ranges_of.ensures (table_in new) c.args.column
    (subst (AreRangesOf 4 (table_in new) c.args.column) its (subst (λ (t : MemoryTable). AreRangesOf 4 t c.args.column c.ranges_of.result.items) c.table.ensures c.ranges_of.ensures)))
