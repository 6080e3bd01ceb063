use Rattle.std.proofs.Common.{◌∙◌, sym}
use Rattle.bw_io.specs.Shared.{bytes_in}
use Rattle.bw_segment.proofs.PackedLemmas.{few}
use Rattle.bw_segment.proofs.SoundLemmas.{bytes_again}
use Rattle.bw_segment.proofs.packed.PackedSegment+L.bytes.Goals as goal

pub returns : goal.returns
returns g c =
    let segment = c.args.self.now in
    let bytes = bytes_in segment.bytes in
    c.as_slice.ensures
    ∙ sym (bytes_again g.L.CodeLayout.packing c.keeps_codes.ensures segment.placement.value.schema.columns.items segment.rows bytes (few segment.packed) segment.packed.sound c.are_bytes.ensures)
