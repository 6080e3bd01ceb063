-- No row is gathered yet.
use Rattle.std.proofs.Common.{[], arith, refl}
use Rattle.bw_model.specs.Column.{names_of}
use Rattle.bw_answer.proofs.gathered.GatheredAnswer.new.Goals as goal

pub invariant_of-result : goal.invariant_of-result
invariant_of-result c = record {
  few = omega arith;
  capacity = omega (arith, c.clear_rows.ensures.rows, c.in_ok-answer.ensures.rows);
  placed = c.in_ok-summed.ensures.places;
}

pub returns-clause-covers : goal.returns-clause-covers
returns-clause-covers c = record {
  before = [];
  group = [];
  parts = refl;
  over = c.clear_rows.ensures.covers (names_of c.args.schema.now.columns.items) c.args.query.now [] c.in_ok-answer.ensures.covers;
  holds = record {
    many = refl;
    named = c.clear_rows.ensures.named;
    listed = c.clear_rows.ensures.listed;
    summed = c.in_ok-summed.ensures.rows;
  };
}
