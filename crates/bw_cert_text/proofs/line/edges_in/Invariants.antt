use Rattle.std.proofs.Common.{◌≡◌, ◌++◌, List, map, option_map, length}
use Rattle.bw_cert_text.specs.declared.lines.EdgeProducts.{EdgeProducts}
use Rattle.bw_cert_text.specs.LineText.{edges_in}
use Rattle.bw_cert_text.proofs.line.edges_in.Given as goal

-- the pairs so far, and then those of the words that are left, are all
abbrev pub invariant-loop-rest : goal.invariant-loop-rest
invariant-loop-rest l =
    edges_in (map (λ word. word.now) l.words)
    ≡ option_map (λ (more : List EdgeProducts). l.edges.items ++ more) (edges_in (map (λ word. word.now) l.rest))

abbrev pub decreases-loop-rest : goal.decreases-loop-rest
decreases-loop-rest l = length l.rest
