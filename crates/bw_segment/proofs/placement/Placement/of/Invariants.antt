use Rattle.std.proofs.Common.{All, ◌≡◌, ◌*◌, ◌≤◌, map}
use Rattle.std.specs.List.{range_with_len}
use Rattle.bw_model.specs.Code.{width_at}
use Rattle.bw_segment.specs.Packing.{bytes_before}
use Rattle.bw_segment.proofs.placement.Placement.of.Given as goal

-- the starts of the blocks so far, where the next one begins, and the widths
abbrev pub invariant-loop-col : goal.invariant-loop-col
invariant-loop-col g l = record {
  starts : l.starts.items ≡ map (bytes_before g.L.CodeLayout.packing l.copied.columns.items) (range_with_len 0 l.col);
  end : l.end ≡ bytes_before g.L.CodeLayout.packing l.copied.columns.items l.col;
  small : l.end ≤ 4160 * l.col;
  wide : l.widths.items ≡ map (width_at l.copied.columns.items) (range_with_len 0 l.col);
  bounded : All (λ width. (1 ≤ width) × (width ≤ 63)) l.widths.items;
}
