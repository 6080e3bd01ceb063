use Rattle.std.proofs.Common.{◌∙◌, ap, map, ltb, not}
use Rattle.bw_model.specs.StoredCodes.{byte_of}
use Rattle.bw_planes.specs.Planes.{planes_codes}
use Rattle.bw_planes.proofs.CompareLemmas.{of_byte, negated}
use Rattle.bw_planes.proofs.planes.PlanesCodeLayout.byte_lt.Goals as goal

pub returns : goal.returns
returns c =
    let codes = planes_codes c.args.width c.args.bytes.now in
    let bytes = of_byte (λ n. not (ltb n c.args.c)) c.args.width c.args.slice c.min.result c.args.bytes.now c.requires.slice c.min.ensures in
    c.not.ensures ∙ ap (map not) (c.byte_at_least.ensures ∙ bytes) ∙ negated (λ code. ltb (byte_of c.args.slice code) c.args.c) codes
