use Rattle.bw_file.proofs.ReaderSpelling.{gave_first, whole_table, no_fault}
use Rattle.bw_file.proofs.reader_laws.a_file_is_read_whole.Goals as goal

pub returns : goal.returns
returns c = record { groups = gave_first; table = whole_table; faults = no_fault }
