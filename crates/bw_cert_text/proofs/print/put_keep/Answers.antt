use Rattle.std.proofs.Common.{[], ◌∷◌}
use Rattle.bw_cert_text.specs.Token.{Number, Register, edge_tokens}
use Rattle.bw_cert_text.proofs.PrintLemmas.{line_written}
use Rattle.bw_cert_text.proofs.print.put_keep.Goals as goal

pub returns-clause-text : goal.returns-clause-text
returns-clause-text c =
    let keep = c.args.keep.now in
    line_written c.args.text.now.items _ _ _ _ c.push.new.self.items (Register keep.register ∷ Number keep.node ∷ Number keep.through ∷ []) (edge_tokens keep.edges)
    c.in_ok-extend_from_slice.ensures.items (rw (c.number-node.ensures.text, c.number-through.ensures.text) at c.in_ok-push_spaced.ensures) (rw c.as_slice.ensures at c.in_ok-put_edges.ensures.text) c.in_ok-push.ensures.items
