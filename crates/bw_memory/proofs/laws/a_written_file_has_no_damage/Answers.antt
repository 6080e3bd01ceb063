use Rattle.bw_memory.proofs.UndamagedColumnar.{only_input}
use Rattle.bw_memory.proofs.laws.a_written_file_has_no_damage.Goals as goal

pub returns : goal.returns
returns c bytes layout schema rows columnar column fault file opened there found = only_input bytes layout schema rows file columnar opened column there fault found
