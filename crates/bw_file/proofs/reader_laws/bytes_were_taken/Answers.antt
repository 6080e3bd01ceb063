-- The header's bytes, and those after it.
use Rattle.std.proofs.Common.{◌∙◌, ◌++◌}
use Rattle.bw_file.proofs.ReaderLemmas.{ends_early}
use Rattle.bw_file.proofs.ReadingLemmas.{took_more}
use Rattle.bw_file.proofs.reader_laws.bytes_were_taken.Goals as goal

pub returns : goal.returns
returns c = λ start now reader groups read. (
  (
    read.head.bytes ++ read.on.bytes,
    took_more start read.after now read.head.bytes read.on.bytes read.head.took read.on.took,
    ends_early start now reader groups read read.on.bytes read.on.needed,
  ),
  read.on.failures ∙ read.head.failures,
)
