-- Bytes in memory, as a source.
use Rattle.std.specs.Prelude.{Some}
use Rattle.bw_io.specs.Source.{SourceState, source_state}
use Rattle.bw_file.specs.declared.memory.Memory.{Memory}

-- the unread bytes are known, and no read has failed
abbrev pub memory_state : Memory → SourceState
memory_state memory = source_state (Some memory.rest.now) 0
