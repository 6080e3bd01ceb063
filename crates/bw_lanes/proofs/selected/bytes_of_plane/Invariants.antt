use Rattle.std.proofs.Common.{◌≡◌, ◌*◌, map, take, length}
use Rattle.bw_lanes.specs.Lanes.{lanes_of_words}
use Rattle.bw_lanes.specs.Selected.{as_byte}
use Rattle.bw_lanes.proofs.selected.bytes_of_plane.Given as goal

abbrev pub invariant-loop-word : goal.invariant-loop-word
invariant-loop-word l = record {
  all : length l.bytes ≡ 512;
  lanes : take (64 * l.word) l.bytes ≡ map as_byte (lanes_of_words (take l.word l.plane));
}
