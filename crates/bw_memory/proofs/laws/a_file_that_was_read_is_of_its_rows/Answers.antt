use Rattle.bw_memory.proofs.WrittenColumnar.{file_is}
use Rattle.bw_memory.proofs.laws.a_file_that_was_read_is_of_its_rows.Goals as goal

pub returns : goal.returns
returns c bytes columnar fits opened has = file_is bytes fits columnar opened has
