use Rattle.std.proofs.Common.{◌∙◌, ◌==◌, ap, arith, cond, ℕ}
use lib.Lanes.{zip2}
use Rattle.bw_lanes.proofs.WordLemmas.{written_all}
use Rattle.bw_lanes.proofs.SelectedLemmas.{kept_lanes}
use Rattle.bw_lanes.proofs.selected.keep_in.Goals as goal

pub returns : goal.returns
returns c = λ lanes are.
    c.loop-word.invariant ∙ written_all _ c.loop-word.word _ c.args.bytes.now c.told-rows c.told-bytes (omega arith)
    ∙ ap (λ l. zip2 (λ (row byte : ℕ). cond (byte == c.args.c) row 0) l c.args.bytes.now) are ∙ kept_lanes c.args.c lanes c.args.bytes.now
