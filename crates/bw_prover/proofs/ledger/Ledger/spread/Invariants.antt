use Rattle.std.proofs.Common.{◌≡◌}
use Rattle.bw_prover.proofs.ledger.Ledger.spread.Given as goal

-- nothing but the slots changes
abbrev pub invariant-loop-number : goal.invariant-loop-number
invariant-loop-number g l = record {
  entries : l.self.entries ≡ l.fn.self.entries;
  count : l.self.count ≡ l.fn.self.count;
  limit : l.self.limit ≡ l.fn.self.limit;
}
