-- The device has the bytes that it had, so what is known of the columns stays.
use Rattle.std.proofs.Common.{subst, sym, ◌∙◌, ◌≡◌, ℕ, List, Option}
use Rattle.bw_memory.specs.FileColumns.{HasColumnDamage, HasColumnsRead}
use Rattle.bw_memory.proofs.file_columns.FileColumns.read_from_file.Goals.{then-has_failed_to_read-via-then-has_failed_to_read, then-has_failed_to_read-via-else-has_failed_to_read+then-is_err, Joined-then-has_failed_to_read}
use Rattle.bw_memory.proofs.file_columns.FileColumns.read_from_file.Given.{Over}
use Rattle.bw_memory.proofs.file_columns.FileColumns.read_from_file.Goals as goal

pub invariant_of-self-clause-have : goal.invariant_of-self-clause-have
invariant_of-self-clause-have g c =
    let self = c.args.self.now in
    subst (λ (known : Option (List ℕ)). HasColumnsRead known self.columnar self.states.items) (sym (c.confirm.ensures.same ∙ c.column_blocks-done.ensures.same)) self.have

pub invariant_of-self-clause-damage : goal.invariant_of-self-clause-damage
invariant_of-self-clause-damage g c =
    let self = c.args.self.now in
    subst (λ (known : Option (List ℕ)). HasColumnDamage known self.columnar self.states.items) (sym (c.confirm.ensures.same ∙ c.column_blocks-done.ensures.same)) self.damage

known_after : (g : Over) (c : Joined-then-has_failed_to_read g) → (g.D.RandomAccess.state c.then-has_failed_to_read.self.1.0).known ≡ (g.D.RandomAccess.state c.args.self.now.device).known
known_after g c = elim c.then-has_failed_to_read.branch [
  | then-has_failed_to_read-via-then-has_failed_to_read w ↦ rw w.self-is c.column_blocks-done.ensures.same
  | then-has_failed_to_read-via-else-has_failed_to_read+then-is_err w ↦ rw w.self-is (w.confirm.ensures.same ∙ c.column_blocks-done.ensures.same)
]

pub invariant_of-self-then-has_failed_to_read-clause-have : goal.invariant_of-self-then-has_failed_to_read-clause-have
invariant_of-self-then-has_failed_to_read-clause-have g c =
    let self = c.args.self.now in
    subst (λ (known : Option (List ℕ)). HasColumnsRead known self.columnar self.states.items) (sym (known_after g c)) self.have

pub invariant_of-self-then-has_failed_to_read-clause-damage : goal.invariant_of-self-then-has_failed_to_read-clause-damage
invariant_of-self-then-has_failed_to_read-clause-damage g c =
    let self = c.args.self.now in
    subst (λ (known : Option (List ℕ)). HasColumnDamage known self.columnar self.states.items) (sym (known_after g c)) self.damage
