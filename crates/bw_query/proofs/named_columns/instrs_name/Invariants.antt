use Rattle.std.proofs.Common.{◌≡◌, drop}
use Rattle.std.specs.List.{list_any}
use Rattle.bw_query.specs.NamedColumns.{instr_names}
use Rattle.bw_query.proofs.named_columns.instrs_name.Given as goal

-- the instructions so far don't name the column
abbrev pub invariant-loop-number : goal.invariant-loop-number
invariant-loop-number l = list_any (instr_names l.column) (drop l.number l.program.instrs) ≡ list_any (instr_names l.column) l.program.instrs
