use Rattle.std.proofs.Common.{◌≡◌, ◌+◌, ◌++◌, List, map, take}
use Rattle.bw_model.specs.Row.{Value}
use Rattle.bw_file.specs.Encoder.{Holds, encoder_layout, encoder_schema, rows_in}
use Rattle.bw_recode.specs.Recode.{replaced_row, replacements_in}
use Rattle.bw_recode.proofs.apply.add_segment.Given as goal

-- the rows so far were added
abbrev pub invariant-loop-i : goal.invariant-loop-i
invariant-loop-i g l = record {
  holds : (rows : List (List Value)) → Holds l.initial.encoder rows
      → Holds l.encoder (rows ++ map (replaced_row (g.S.Segment.meaning l.segment).columns (replacements_in l.replacements)) (take l.i (g.S.Segment.meaning l.segment).rows));
  rows : rows_in l.encoder ≡ rows_in l.initial.encoder + l.i;
  layout : encoder_layout l.encoder ≡ encoder_layout l.initial.encoder;
  schema : encoder_schema l.encoder ≡ encoder_schema l.initial.encoder;
}
