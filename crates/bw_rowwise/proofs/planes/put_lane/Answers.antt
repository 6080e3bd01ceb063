-- A bit of the lane's word is set or cleared.
use Rattle.std.proofs.Common.{◌∙◌, sym}
use Rattle.bw_rowwise.proofs.PlaneLemmas.{made_one, made_zero, others_of_one, others_of_zero}
use Rattle.bw_rowwise.proofs.planes.put_lane.Goals as goal

pub returns-then-is_one : goal.returns-then-is_one
returns-then-is_one c = record {
  put = made_one c.args.plane.now c.args.at c.told-plane c.requires ∙ sym c.if-is_one.true;
  others = λ other within apart. others_of_one c.args.plane.now c.args.at other c.told-plane c.requires within apart;
}

pub returns-else-is_one : goal.returns-else-is_one
returns-else-is_one c = record {
  put = made_zero c.args.plane.now c.args.at c.told-plane c.requires ∙ sym c.if-is_one.false;
  others = λ other within apart. others_of_zero c.args.plane.now c.args.at other c.told-plane c.requires within apart;
}
