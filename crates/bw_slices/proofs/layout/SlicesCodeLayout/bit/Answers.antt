use Rattle.std.proofs.Common.{◌∙◌, ap, ◌+◌, ◌/◌, ◌%◌, map, ◌==◌}
use Rattle.std.specs.Int.{bit_at}
use Rattle.bw_segment.proofs.LaneLemmas.{bits_of_bytes}
use Rattle.bw_slices.specs.Slices.{slices_codes}
use Rattle.bw_slices.proofs.layout.SlicesCodeLayout.bit.Goals as goal

pub returns : goal.returns
returns c =
    c.bytes_bit.ensures ∙ ap (map (λ byte. bit_at byte (c.args.bit % 8) == 1)) c.slice_of.ensures
    ∙ bits_of_bytes (slices_codes ((c.args.width + 7) / 8) c.args.bytes.now) c.args.bit
