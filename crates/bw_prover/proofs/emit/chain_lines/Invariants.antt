use Rattle.std.proofs.Common.{◌≡◌, true}
use Rattle.bw_prover.specs.ChainNames.{are_chains_named}
use Rattle.bw_prover.proofs.emit.chain_lines.Given as goal

abbrev pub invariant-loop-number : goal.invariant-loop-number
invariant-loop-number l = are_chains_named l.schema.columns.items l.lines.items ≡ true
