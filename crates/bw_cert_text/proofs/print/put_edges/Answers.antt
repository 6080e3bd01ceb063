-- Each line that is written goes over from what is left, and its numbers are below 2^64.
use Rattle.std.proofs.Common.{◌∙◌, sym, arith}
use Rattle.bw_cert_text.proofs.PrintLemmas.{edges-next, edges-end, fit-next, fit-all, is_small_edge}
use Rattle.bw_cert_text.proofs.PrintLemmas.{edges_fit, edge-fits}
use Rattle.bw_text.proofs.PrintedLemmas.{written, all_written}
use Rattle.bw_cert_text.proofs.print.put_edges.Goals as goal

pub loop-edge-preserved : goal.loop-edge-preserved
loop-edge-preserved c =
    record {
      text = written c.loop-edge.text.items _ _ _ _ c.push_spaced.new.text.items (rw (c.number.ensures.text, c.number-in-loop-edge.ensures.text) at c.in_ok-push_spaced.ensures)
          (edges-next c.args.edges.now c.loop-edge.edge-index _ (omega (arith, c.loop-edge-test.true))) c.loop-edge.invariant.text;
      fit = fit-next is_small_edge c.args.edges.now c.loop-edge.edge-index _ (omega (arith, c.loop-edge-test.true)) c.loop-edge.invariant.fit (edge-fits _ _ c.number.ensures.fit c.number-in-loop-edge.ensures.fit);
    }

pub returns-clause-text : goal.returns-clause-text
returns-clause-text c =
    all_written c.loop-edge.text.items _ _ (edges-end c.args.edges.now c.loop-edge.edge-index (omega (arith, c.loop-edge-test.false))) c.loop-edge.invariant.text

pub returns-clause-fit : goal.returns-clause-fit
returns-clause-fit c =
    sym (edges_fit c.args.edges.now) ∙ fit-all is_small_edge c.args.edges.now c.loop-edge.edge-index (omega (arith, c.loop-edge-test.false)) c.loop-edge.invariant.fit
