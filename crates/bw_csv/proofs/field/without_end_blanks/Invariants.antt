use Rattle.std.proofs.Common.{◌≡◌, ◌+◌, ◌≤◌, length, take}
use Rattle.std.specs.List.{suffix_len}
use Rattle.bw_csv.specs.Rows.{is_blank}
use Rattle.bw_csv.proofs.field.without_end_blanks.Given as goal

-- the blanks at the end are those that were passed, and those before them
abbrev pub invariant-loop-end : goal.invariant-loop-end
invariant-loop-end l = record {
  within : l.end ≤ length l.field;
  passed : l.end + suffix_len is_blank l.field ≡ length l.field + suffix_len is_blank (take l.end l.field);
}

abbrev pub decreases-loop-end : goal.decreases-loop-end
decreases-loop-end l = l.end
