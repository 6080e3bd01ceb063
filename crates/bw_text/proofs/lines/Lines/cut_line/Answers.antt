use Rattle.std.proofs.Common.{◌≡◌, ◌∙◌, sym, refl, ap, length, eqb-true}
use Rattle.bw_text.specs.Lines.{Unread, cut_lines}
use Rattle.bw_text.proofs.LineLemmas.{cut_nothing}
use Rattle.bw_text.proofs.lines.Lines.cut_line.Goals as goal

pub returns-then-is_empty-clause-none : goal.returns-then-is_empty-clause-none
returns-then-is_empty-clause-none c =
    let empty : length c.self.inside.text.now ≡ 0 = eqb-true _ _ (sym c.is_empty.ensures ∙ c.if-is_empty.true) in
    (ap (λ (unread : Unread). cut_lines unread.text) (sym c.self.view_is) ∙ cut_nothing c.self.inside.text.now empty, refl)
