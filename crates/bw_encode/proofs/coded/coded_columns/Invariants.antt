use Rattle.std.proofs.Common.{◌≡◌, All, map, take}
use Rattle.bw_encode.specs.Coded.{IsCoded, fields_in}
use Rattle.bw_encode.proofs.coded.coded_columns.Given as goal

-- the columns before this one are coded
abbrev pub invariant-loop-fields : goal.invariant-loop-fields
invariant-loop-fields l = record {
  fields : map fields_in l.coded.items ≡ take l.fields-index l.columns;
  coded : All IsCoded l.coded.items;
}
