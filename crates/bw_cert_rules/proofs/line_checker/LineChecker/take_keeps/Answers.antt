-- One line KEEP after another.
use Rattle.std.proofs.Common.{◌∙◌, refl, sym, ap, Err}
use Rattle.bw_cert_text.specs.BodyLines.{body_lines}
use Rattle.bw_cert_rules.specs.Known.{nothing_known, with_node}
use Rattle.bw_cert_rules.specs.Walk.{keeps_taken}
use Rattle.bw_cert_rules.proofs.EdgeLemmas.{suc-is}
use Rattle.bw_cert_rules.proofs.JoinLemmas.{keep_step, no_more_lines, no_more_keeps}
use Rattle.bw_cert_rules.proofs.line_checker.LineChecker.take_keeps.Goals.{in-Some+in_default-entry}
use Rattle.bw_cert_rules.proofs.line_checker.LineChecker.take_keeps.Goals.{in_default}
use Rattle.bw_cert_rules.proofs.line_checker.LineChecker.take_keeps.Goals as goal

pub loop-line-init : goal.loop-line-init
unfolding nothing_known
loop-line-init c = record { told = refl }

pub returns-then-not-is_valid_keep-clause-fault : goal.returns-then-not-is_valid_keep-clause-fault
returns-then-not-is_valid_keep-clause-fault c =
    c.loop-line.invariant.told ∙ keep_step _ _ _ _ _ _ _ _ _ _ c.in-Some.ensures.cases c.in-Keep.is (sym c.if-not-is_valid_keep.ensures.kept) ∙ ap Err (sym c.at_line.ensures)

pub loop-line-preserved : goal.loop-line-preserved
loop-line-preserved c =
    record {
      told = c.loop-line.invariant.told ∙ keep_step _ _ _ _ _ _ _ _ _ _ c.in-Some.ensures.cases c.in-Keep.is (sym c.if-not-is_valid_keep.ensures.kept)
          ∙ ap (λ n. keeps_taken c.args.self.diagram.now c.args.known.now c.args.edges.now n (with_node c.loop-line.kept c.in-Keep.keep.register c.in-Keep.keep.node) (body_lines c.in-Some.more)) (suc-is c.in-Keep.keep.register);
    }

pub returns-clause-taken : goal.returns-clause-taken
returns-clause-taken c = elim c.match-next.branch [
  | in-Some+in_default-entry w ↦ c.loop-line.invariant.told ∙ no_more_keeps _ _ _ _ _ _ _ _ w.in-Some.ensures.cases w.in_default-entry.not-Keep
  | in_default w ↦ c.loop-line.invariant.told ∙ no_more_lines _ _ _ _ _ _ w.in_default.ensures.cases
]
