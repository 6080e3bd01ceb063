use Rattle.std.proofs.Common.{refl}
use Rattle.bw_program.specs.Machine.{start, steps_from}
use Rattle.bw_program.proofs.MachineLaws.{goes_on}
use Rattle.bw_program.proofs.laws.runs_go_on.Goals as goal

pub returns : goal.returns
unfolding steps_from
returns c = record {
  begins = λ columns lanes program. refl;
  on = λ columns lanes program steps more. goes_on columns lanes program (start lanes) steps more;
}
