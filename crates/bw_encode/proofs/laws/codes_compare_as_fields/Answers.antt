use Rattle.bw_encode.proofs.CodeLemmas.{compare_codes}
use Rattle.bw_encode.proofs.laws.codes_compare_as_fields.Goals as goal

pub returns : goal.returns
returns c = compare_codes
