-- The state of a reader that is used as a source.
use Rattle.std.specs.Prelude.{ℕ}
use Rattle.bw_io.specs.declared.from_read.FromRead.{FromRead}

-- the reader of std
abbrev pub reader_of : {R : Type 0} → FromRead R → R
reader_of s = s.inner

-- how many of its reads have failed
abbrev pub read_failures : {R : Type 0} → FromRead R → ℕ
read_failures s = s.failures
