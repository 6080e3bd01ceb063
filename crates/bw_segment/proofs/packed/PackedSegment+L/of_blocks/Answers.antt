use Rattle.bw_io.specs.Shared.{bytes_in}
use Rattle.bw_segment.proofs.PackedLemmas.{held_in_one_piece}
use Rattle.bw_segment.proofs.packed.PackedSegment+L.of_blocks.Goals as goal

pub of_held_blocks-requires-clause-held : goal.of_held_blocks-requires-clause-held
of_held_blocks-requires-clause-held g c = held_in_one_piece g.L.CodeLayout.packing c.args.placement.value.schema.columns.items c.args.rows (bytes_in c.args.bytes) c.requires.sound
