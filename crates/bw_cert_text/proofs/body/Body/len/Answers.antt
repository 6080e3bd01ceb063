use Rattle.std.proofs.Common.{◌∙◌, ap, length}
use Rattle.bw_cert_text.proofs.StoredLineLemmas.{lines-count}
use Rattle.bw_cert_text.proofs.body.Body.len.Goals as goal

pub returns : goal.returns
returns c = c.len.ensures ∙ (c.self.inside.forms.ok.0 ∙ lines-count _ _ _ c.self.invariant ∙ ap length c.self.view_is)
