-- Each column was read or is blank, before and after.
use Rattle.std.proofs.Common.{◌≡◌, ◌∙◌, refl, sym, subst, inl, inr, List, ℕ, Option, Bool, true, false, ◌||◌, arith}
use Rattle.std.proofs.lemmas.List.{get_or_default}
use Rattle.bw_io.specs.Source.{is_input_fault, is_read_fault}
use Rattle.bw_model.specs.Fault.{is_memory}
use Rattle.bw_file.specs.TableReading.{IsTableFault}
use Rattle.bw_memory.specs.declared.column_state.ColumnState.TheVariants as state
use Rattle.bw_memory.proofs.file_columns.FileColumnsColumnStore.read.Given.{Over}
use Rattle.bw_memory.proofs.file_columns.FileColumnsColumnStore.read.Goals.{In-Damaged}
use Rattle.std.proofs.lemmas.Result.{IfErr-weaker}
use Rattle.bw_memory.specs.Columnar.{table_in}
use Rattle.bw_memory.specs.ColumnStore.{FileHeader, HasColumnFault, IsTableOf, header_of, in_file}
use Rattle.bw_memory.proofs.FileColumnsLemmas.{header_after, table_is}
use Rattle.bw_memory.proofs.file_columns.FileColumnsColumnStore.read.Goals as goal

pub returns-in-Read-clause-of : goal.returns-in-Read-clause-of
returns-in-Read-clause-of g c =
    let self = c.args.self.now in
    table_is (g.D.RandomAccess.state self.device).known self.columnar self.states.items self.have self.blank

pub returns-in-Damaged-clause-of : goal.returns-in-Damaged-clause-of
returns-in-Damaged-clause-of g c =
    let self = c.args.self.now in
    table_is (g.D.RandomAccess.state self.device).known self.columnar self.states.items self.have self.blank

-- the error that the column had
kept : (g : Over) (c : In-Damaged g) → HasColumnFault (in_file (g.D.RandomAccess.state c.args.self.now.device).known (header_of c.args.self.now.columnar)) c.args.column c.in-Damaged.fault
    × IsTableFault c.in-Damaged.fault × (is_input_fault c.in-Damaged.fault ≡ false)
kept g c =
    let self = c.args.self.now in
    self.damage c.args.column c.in-Damaged.fault
    (get_or_default self.states.items c.args.column state.Unread c.index.result.now (omega (arith, c.requires, self.all)) ∙ sym c.index.ensures ∙ c.in-Damaged.is)

pub returns-in-Damaged-clause-refused : goal.returns-in-Damaged-clause-refused
returns-in-Damaged-clause-refused g c = (kept g c).0

pub returns-in-Damaged-clause-fault : goal.returns-in-Damaged-clause-fault
returns-in-Damaged-clause-fault g c = (kept g c).1

pub returns-in-Damaged-clause-lost : goal.returns-in-Damaged-clause-lost
returns-in-Damaged-clause-lost g c read = absurd (neither (is_memory c.in-Damaged.fault) (is_read_fault c.in-Damaged.fault) read (kept g c).2)
  where
    neither : (a b : Bool) → b ≡ true → (a || b) ≡ false → ⊥
    neither true b e none = cc none
    neither false b e none = let both : true ≡ false = sym e ∙ none in cc both

pub returns-in-Unread-clause-of : goal.returns-in-Unread-clause-of
returns-in-Unread-clause-of g c =
    let self = c.args.self.now in
    table_is (g.D.RandomAccess.state self.device).known self.columnar self.states.items self.have self.blank

pub returns-in-Unread-clause-refused : goal.returns-in-Unread-clause-refused
returns-in-Unread-clause-refused g c = ∣ (c.args.self.now.columnar, refl, inr (inr (inl (rw c.new.ensures refl)))) ∣₁

pub returns-in-Unread-2-clause-refused : goal.returns-in-Unread-2-clause-refused
returns-in-Unread-2-clause-refused g c =
    IfErr-weaker c.read_from_file.result _ _ (λ fault refused. ∣ (c.args.self.now.columnar, refl, refused) ∣₁) c.read_from_file.ensures.refused

pub returns-in-Unread-2-clause-of : goal.returns-in-Unread-2-clause-of
returns-in-Unread-2-clause-of g c =
    let old = c.args.self.now.columnar in
    let self = c.read_from_file.new.self in
    let after = (g.D.RandomAccess.state self.device).known in
    let is = table_is after self.columnar self.states.items self.have self.blank in
    let header = header_after (g.D.RandomAccess.state c.args.self.now.device).known old self.columnar c.args.column c.read_from_file.result c.read_from_file.ensures.read c.read_from_file.ensures.untouched in
    subst (λ (known : Option (List ℕ)). IsTableOf (in_file known (header_of old)) (table_in self.columnar)) c.read_from_file.ensures.known
    (subst (λ (h : FileHeader). IsTableOf (in_file after h) (table_in self.columnar)) header is)
