use Rattle.bw_segment.proofs.SoundLemmas.{length-rows_spelled, spelled_group, bytes_again}
use Rattle.bw_segment.proofs.packing.sound_bytes_spell_a_group.Goals as goal

pub returns : goal.returns
returns c = record {
  count = length-rows_spelled;
  group = λ packing name columns count bytes law some few sound. spelled_group packing law columns count bytes few sound name some;
  bytes = λ packing columns count bytes law some few sound small. bytes_again packing law columns count bytes few sound small;
}
