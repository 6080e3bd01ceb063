use Rattle.std.proofs.Common.{◌≡◌, ◌++◌, take, drop, true}
use Rattle.std.specs.List.{list_all}
use Rattle.bw_cert_text.specs.PrintText.{token_words}
use Rattle.bw_text.specs.Printing.{spaced_words}
use Rattle.bw_cert_text.specs.Token.{edge_tokens}
use Rattle.bw_cert_text.proofs.PrintLemmas.{is_small_edge}
use Rattle.bw_cert_text.proofs.print.put_edges.Given as goal

-- what is written so far, and then what is left, are all after the text
abbrev pub invariant-loop-edge : goal.invariant-loop-edge
invariant-loop-edge l = record {
  text : l.text.items ++ spaced_words (token_words (edge_tokens (drop l.edge-index l.edges))) ≡ l.fn.text.items ++ spaced_words (token_words (edge_tokens l.edges));
  fit : list_all is_small_edge (take l.edge-index l.edges) ≡ true;
}
