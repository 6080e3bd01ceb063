-- The state of a source that reads ahead.
use Rattle.std.specs.Prelude.{ℕ, List, Option, slice_range}
use Rattle.std.specs.Io.KnownBytes.{prepend_known}
use Rattle.bw_io.specs.declared.read_ahead.ReadAhead.{ReadAhead}

-- the reader of std
abbrev pub reader_of : {R : Type 0} → ReadAhead R → R
reader_of source = source.inner

-- how many of its reads have failed
abbrev pub read_failures : {R : Type 0} → ReadAhead R → ℕ
read_failures source = source.failures

-- the bytes that were read ahead and not yet delivered
abbrev pub buffered_bytes : {R : Type 0} → ReadAhead R → List ℕ
buffered_bytes source = slice_range source.memory.value.items source.start source.end

-- the unread bytes: those, followed by the reader's, if these are known
abbrev pub unread_bytes : {R : Type 0} → (R → Option (List ℕ)) → ReadAhead R → Option (List ℕ)
unread_bytes remaining source = prepend_known (buffered_bytes source) (remaining source.inner)
