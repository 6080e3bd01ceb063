-- The product rows of a certificate that is being made.
use Rattle.std.specs.Prelude.{ℕ}
use Rattle.bw_prover.specs.declared.prover.Prover.{Prover}

-- how many product rows a prover has stated so far
abbrev pub row_count : Prover → ℕ
row_count prover = prover.facts.products.count
