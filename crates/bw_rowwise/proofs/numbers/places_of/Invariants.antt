use Rattle.std.proofs.Common.{◌≡◌, take, length}
use Rattle.bw_rowwise.specs.Numbers.{ArePlaced}
use Rattle.bw_rowwise.proofs.numbers.places_of.Given as goal

-- the places of the numbers so far are taken
abbrev pub invariant-loop-n : goal.invariant-loop-n
invariant-loop-n l = record {
  placed : ArePlaced l.places.items (take l.n-index l.numbers);
  size : length l.places.items ≡ 16381;
}
