-- The sections of a certificate that is rejected.
use Rattle.bw_cert.proofs.FirstWrongLemmas.{first_wrong}
use Rattle.bw_cert.proofs.laws.refused_certificates_have_a_first_fault.Goals as goal

pub returns : goal.returns
returns c = first_wrong
