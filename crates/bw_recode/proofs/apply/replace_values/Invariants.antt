use Rattle.std.proofs.Common.{◌≡◌, [], take, slice_index_or}
use Rattle.bw_recode.specs.Recode.{replaced_row, replacements_in}
use Rattle.bw_recode.proofs.apply.replace_values.Given as goal

-- the values of the columns so far were replaced
abbrev pub invariant-loop-col : goal.invariant-loop-col
invariant-loop-col g l = l.row.values.items
    ≡ take l.col (replaced_row (g.S.Segment.meaning l.segment).columns (replacements_in l.replacements) (slice_index_or (g.S.Segment.meaning l.segment).rows l.i []))
