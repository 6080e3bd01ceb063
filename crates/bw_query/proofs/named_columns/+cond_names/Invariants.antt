use Rattle.std.proofs.Common.{◌≡◌, drop}
use Rattle.std.specs.List.{list_any}
use Rattle.bw_query.specs.NamedColumns.{cond_names}
use Rattle.bw_query.proofs.named_columns.+cond_names.Given as goal

-- the parts so far don't name the column
abbrev pub invariant-conds_name-loop-part : goal.invariant-conds_name-loop-part
invariant-conds_name-loop-part l = list_any (cond_names l.column) (drop l.part-index l.parts) ≡ list_any (cond_names l.column) l.parts
