use Rattle.std.proofs.Common.{◌≡◌, map, take, true}
use Rattle.std.specs.List.{list_all}
use Rattle.bw_model.specs.Column.{admits_values}
use Rattle.bw_model.specs.Row.{values_of}
use Rattle.bw_segment.proofs.group.is_group.Given as goal

-- the rows so far are admitted
abbrev pub invariant-loop-row : goal.invariant-loop-row
invariant-loop-row l = list_all (admits_values l.schema.columns.items) (map values_of (take l.row-index l.rows)) ≡ true
