use Rattle.std.proofs.Common.{◌∙◌, eqb}
use Rattle.bw_planes.proofs.CompareLemmas.{of_byte}
use Rattle.bw_planes.proofs.planes.PlanesCodeLayout.byte_eq.Goals as goal

pub returns : goal.returns
returns c = c.eq.ensures ∙ of_byte (λ n. eqb n c.args.c) c.args.width c.args.slice c.min.result c.args.bytes.now c.requires.slice c.min.ensures
