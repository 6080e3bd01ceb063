use Rattle.bw_segment.proofs.BytesLemmas.{text_is_sound, length-text, block_of_text, rows_of_bytes}
use Rattle.bw_segment.proofs.packing.bytes_of_a_group_are_sound.Goals as goal

pub returns : goal.returns
returns c = record {
  sound = λ packing meaning law group. text_is_sound packing law meaning group;
  size = λ packing meaning law group. length-text packing law meaning group;
  block = λ packing meaning col law group there. block_of_text packing law meaning group col there;
  rows = λ packing meaning law group. rows_of_bytes packing law meaning group;
}
