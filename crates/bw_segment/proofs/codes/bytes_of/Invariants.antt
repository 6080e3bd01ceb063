use Rattle.std.proofs.Common.{◌≡◌, map, take, length}
use Rattle.bw_model.specs.StoredCodes.{byte_of}
use Rattle.bw_segment.proofs.codes.bytes_of.Given as goal

abbrev pub invariant-loop-lane : goal.invariant-loop-lane
invariant-loop-lane l = record {
  all : length l.codes ≡ 512;
  room : length l.bytes ≡ 512;
  bytes : take l.lane l.bytes ≡ map (byte_of l.slice) (take l.lane l.codes);
}
