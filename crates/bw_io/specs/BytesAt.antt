-- Bytes in memory, as a device that is read at places.
use Rattle.std.specs.Prelude.{Some}
use Rattle.bw_io.specs.declared.random_access.BytesAt.{BytesAt}
use Rattle.bw_io.specs.RandomAccess.{AccessState, access_state}

-- its bytes are known, and no call has failed
abbrev pub bytes_state : BytesAt → AccessState
bytes_state device = access_state (Some device.bytes.now) 0 device.is_confirmed
