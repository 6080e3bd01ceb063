-- What is known holds at each place that is reached.
use Rattle.std.proofs.Common.{subst}
use Rattle.bw_program.specs.Machine.{State}
use Rattle.bw_cert_rules.specs.Accepted.{known_before}
use Rattle.bw_cert_rules.specs.Sound.{Hold}
use Rattle.bw_cert_rules.proofs.SoundLemmas.{holds_after, holds_at_end, forward}
use Rattle.bw_cert_rules.proofs.known_laws.skip_soundness.Goals as goal

pub returns-clause-reached : goal.returns-clause-reached
returns-clause-reached c = λ facts program parts true_facts sound valid_parts lanes place state reaches.
    let holds = holds_after facts lanes program parts reaches.steps (c.cited_nodes_have_stated_values.ensures facts true_facts) valid_parts (forward program sound) in
    subst (λ p. Hold facts lanes (known_before facts program.instrs parts p) state.registers) reaches.at
    (subst (λ (s : State). Hold facts lanes (known_before facts program.instrs parts s.place) s.registers) reaches.after holds)

pub returns-clause-end : goal.returns-clause-end
returns-clause-end c = λ facts program parts true_facts sound valid_parts lanes.
    holds_at_end facts lanes program parts (c.cited_nodes_have_stated_values.ensures facts true_facts) valid_parts sound
