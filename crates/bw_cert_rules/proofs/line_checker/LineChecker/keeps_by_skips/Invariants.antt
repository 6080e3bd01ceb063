use Rattle.std.proofs.Common.{◌≡◌, length}
use Rattle.bw_cert_rules.specs.Join.{keeps_by_skips}
use Rattle.bw_cert_rules.proofs.line_checker.LineChecker.keeps_by_skips.Given as goal

-- what is left to show is so of the skips and the pairs that are left
abbrev pub invariant-loop-edge : goal.invariant-loop-edge
invariant-loop-edge l = record {
  told : keeps_by_skips l.self.diagram.now l.keep l.initial.edges l.keep.edges
      ≡ keeps_by_skips l.self.diagram.now l.keep l.skips l.pairs;
}

abbrev pub decreases-loop-edge : goal.decreases-loop-edge
decreases-loop-edge l = length l.skips
