use Rattle.std.proofs.Common.{◌≡◌, ◌⊎◌, inl, inr, ℕ, ◌<◌, ◌≤◌, false, get_or, arith}
use Rattle.std.proofs.lemmas.Bool.{cases_lt}
use Rattle.std.proofs.lemmas.List.{get_or_past}
use Rattle.bw_lanes.specs.Lanes.{lanes_of_words}
use Rattle.bw_lanes.proofs.WordLemmas.{length-lanes_of_words}
use Rattle.bw_conformance_scan.proofs.selected.assert_within.Goals as goal

pub returns : goal.returns
returns g c = λ row le. go row le (cases_lt row 512)
  where
    go : (row : ℕ) → c.args.rows ≤ row → (row < 512) ⊎ (512 ≤ row) → get_or (lanes_of_words c.args.plane.now) row false ≡ false
    go row le (inl lt) = c.loop-row.invariant row le (omega arith)
    go row le (inr past) = get_or_past (lanes_of_words c.args.plane.now) row false (omega (arith, past, length-lanes_of_words c.args.plane.now, c.told-plane))
