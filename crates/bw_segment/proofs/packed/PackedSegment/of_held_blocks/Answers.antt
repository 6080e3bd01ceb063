use Rattle.bw_segment.proofs.SoundLemmas.{spelled_group}
use Rattle.bw_segment.proofs.packed.PackedSegment.of_held_blocks.Goals as goal

pub invariant_of-result : goal.invariant_of-result
invariant_of-result g c =
    let schema = c.args.placement.value.schema in
    let bytes = g.B.Blocks.bytes c.args.bytes in
    let packing = g.L.CodeLayout.packing in
    let law = c.keeps_codes.ensures in
    record {
      packed = record {
        law = law;
        placed = c.requires.placed;
        sound = c.requires.sound;
        group = spelled_group packing law schema.columns.items c.args.rows bytes c.requires.within_limit c.requires.sound schema.name c.requires.nonempty;
      };
      held = c.requires.held;
    }
