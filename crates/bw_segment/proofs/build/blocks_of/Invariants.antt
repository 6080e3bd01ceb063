use Rattle.std.proofs.Common.{◌≡◌, List, ◌++◌, ◌-◌, flat_map, length}
use Rattle.std.specs.List.{range_with_len}
use Rattle.bw_model.specs.Row.{Value}
use Rattle.bw_segment.specs.Columns.{KeepRows}
use Rattle.bw_segment.specs.Packing.{block_bytes, segment_bytes}
use Rattle.bw_segment.proofs.build.blocks_of.Given as goal

-- what is there and what is to come, of whichever rows are kept
abbrev pub invariant-loop-col : goal.invariant-loop-col
invariant-loop-col g l =
    (rows : List (List Value)) → KeepRows l.placement.schema.columns.items rows l.kept
    → l.bytes.items ++ flat_map (λ column. block_bytes g.L.CodeLayout.packing l.placement.schema.columns.items column rows) (range_with_len l.col (length l.placement.schema.columns.items - l.col))
    ≡ segment_bytes g.L.CodeLayout.packing l.placement.schema.columns.items rows
