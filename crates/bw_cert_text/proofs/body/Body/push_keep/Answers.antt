use Rattle.std.proofs.Common.{◌∙◌, ap, length, ◌++◌, ◌∷◌, [], if◌then◌else◌, is_ok}
use Rattle.bw_cert_text.specs.declared.lines.BodyLine.{BodyLine}
use Rattle.bw_cert_text.proofs.StoredLineLemmas.{keep_kept}
use Rattle.bw_cert_text.proofs.body.Body.push_keep.Goals as goal

pub returns : goal.returns
returns c =
    c.put.ensures
    ∙ ap (λ (line : BodyLine). if is_ok c.put.result then (c.args.self.now ++ line ∷ []) else c.args.self.now)
    (keep_kept c.args.keep.now c.args.line (length c.as_slice-pairs.result.now) c.as_slice-pairs.result.now _ c.as_slice-pairs.ensures)
