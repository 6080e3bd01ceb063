use Rattle.std.proofs.Common.{◌≡◌, drop}
use Rattle.bw_file.specs.TableReading.{padding_from}
use Rattle.bw_file.proofs.body.padding_place.Given as goal

-- no byte so far has such a bit
abbrev pub invariant-loop-at : goal.invariant-loop-at
invariant-loop-at l =
    padding_from l.layout l.placement.schema.columns.items l.rows l.col l.block 0
    ≡ padding_from l.layout l.placement.schema.columns.items l.rows l.col (drop l.at l.block) l.at
