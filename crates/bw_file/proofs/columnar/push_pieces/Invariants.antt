use Rattle.std.proofs.Common.{◌≡◌, ◌-◌, ◌++◌, flat_map}
use Rattle.std.specs.List.{range_with_len}
use Rattle.bw_file.specs.Columnar.{piece_from}
use Rattle.bw_file.proofs.columnar.push_pieces.Given as goal

-- what is there and what is to come
abbrev pub invariant-loop-number : goal.invariant-loop-number
invariant-loop-number l =
    l.file.items ++ flat_map (piece_from l.bytes l.at l.size l.count) (range_with_len l.number (l.pieces - l.number))
    ≡ l.initial.file.items ++ flat_map (piece_from l.bytes l.at l.size l.count) (range_with_len 0 l.pieces)
