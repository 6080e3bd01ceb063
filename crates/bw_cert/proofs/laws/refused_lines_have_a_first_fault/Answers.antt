-- The lines that are rejected, and the first error in them.
use Rattle.bw_cert.proofs.FirstFaultLemmas.{first_fault_stands, refused_with_first, lines_after}
use Rattle.bw_cert.proofs.laws.refused_lines_have_a_first_fault.Goals as goal

pub returns : goal.returns
returns c = record {
  stands = first_fault_stands;
  first = refused_with_first;
  after = λ facts instrs end lines fault is. lines_after facts instrs end lines fault (first_fault_stands facts instrs end lines fault is);
}
