-- One skip and its pair of rows after another.
use Rattle.std.proofs.Common.{◌∙◌, sym, ap, Bool, ◌&&◌}
use Rattle.std.proofs.lemmas.List.{nil_from_length}
use Rattle.bw_cert_rules.specs.Join.{keeps_by_skips}
use Rattle.bw_cert_rules.proofs.JoinLemmas.{skips_without_pair, skip_and_more, no_skips}
use Rattle.bw_cert_rules.proofs.line_checker.LineChecker.keeps_by_skips.Goals as goal

pub returns-in_default-split_first : goal.returns-in_default-split_first
returns-in_default-split_first c =
    sym (c.loop-edge.invariant.told ∙ skips_without_pair _ _ _ _ _ _ c.in-Some.ensures.cases.0 (nil_from_length _ c.in_default-split_first.ensures.cases))

pub returns-then-not-keeps_by_skip : goal.returns-then-not-keeps_by_skip
returns-then-not-keeps_by_skip c =
    let rest : Bool = keeps_by_skips c.args.self.diagram.now c.args.keep.now c.in-Some.edges.now c.in-Some-split_first.more.now in
    sym (c.loop-edge.invariant.told ∙ skip_and_more _ _ _ _ _ _ _ _ c.in-Some.ensures.cases.0 c.in-Some-split_first.ensures.cases.0 ∙ ap (λ b. b && rest) (sym c.if-not-keeps_by_skip.ensures))

pub loop-edge-preserved : goal.loop-edge-preserved
loop-edge-preserved c =
    let rest : Bool = keeps_by_skips c.args.self.diagram.now c.args.keep.now c.in-Some.edges.now c.in-Some-split_first.more.now in
    record { told = c.loop-edge.invariant.told ∙ skip_and_more _ _ _ _ _ _ _ _ c.in-Some.ensures.cases.0 c.in-Some-split_first.ensures.cases.0 ∙ ap (λ b. b && rest) (sym c.if-not-keeps_by_skip.ensures) }

pub returns : goal.returns
returns c = sym (c.loop-edge.invariant.told ∙ no_skips _ _ _ _ (nil_from_length _ c.in_default.ensures.cases) ∙ sym c.is_empty.ensures)
