use Rattle.std.proofs.Common.{◌∙◌}
use Rattle.bw_slices.proofs.AboveLemmas.{used_any}
use Rattle.bw_slices.proofs.any_code.any_nonzero.Goals as goal

pub returns : goal.returns
returns c = c.bytes_any.ensures ∙ used_any c.args.bytes.now _ c.args.slices
