-- One schema, and one file of its rows.
use Rattle.bw_laws.proofs.OneFileLemmas.{one_file, one_text}
use Rattle.bw_laws.proofs.one_file.there_is_one_file.Goals as goal

pub returns : goal.returns
returns c = record { came = one_file; texts = one_text }
