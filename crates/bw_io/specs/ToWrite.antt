-- The state of a writer that is used as a sink.
use Rattle.std.specs.Prelude.{ℕ}
use Rattle.bw_io.specs.declared.to_write.ToWrite.{ToWrite}

-- the writer of std
abbrev pub writer_of : {W : Type 0} → ToWrite W → W
writer_of s = s.inner

-- how many of its writes have failed
abbrev pub write_failures : {W : Type 0} → ToWrite W → ℕ
write_failures s = s.failures
