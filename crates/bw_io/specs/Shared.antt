-- The content of bytes that can be shared.
use Rattle.std.specs.Prelude.{ℕ, List, slice_range}
use Rattle.bw_io.specs.declared.shared.SharedBytes.{SharedBytes}

-- the bytes
abbrev pub bytes_in : SharedBytes → List ℕ
bytes_in shared = slice_range shared.memory.value.items shared.start shared.end
