-- One more group of rows that was scanned.
use Rattle.std.proofs.Common.{◌≡◌, ◌∙◌, ◌+◌, ◌≤◌, ◌++◌, ◌∷◌, [], ℕ, List, ap, arith, length-append}
use Rattle.bw_model.specs.declared.column.Column.{Column}
use Rattle.bw_model.specs.Row.{Value}
use Rattle.bw_run.specs.declared.run.Counts.{Counts}
use Rattle.bw_query.specs.declared.scan.Scan.{Scan}
use Rattle.bw_query.specs.declared.served.Scanned.{Scanned}
use Rattle.bw_query.specs.Consumers.{AreFew, IsRunOver}
use Rattle.bw_query.specs.Scan.{loads_in, skips_in}
use Rattle.bw_query.specs.Segments.{IsScanOf}
use Rattle.bw_query.proofs.TableLemmas.{one_more}

pub scanned_more : (columns : List Column) (first now : Scan) (groups : List (List (List Value))) (group : List (List Value)) (counts : Counts) (old new : Scanned) → now ≡ first
    → IsScanOf columns first groups old → IsRunOver columns now group counts → new.segments ≡ old.segments + 1 → new.loads ≡ old.loads + counts.loads → new.skips ≡ old.skips + counts.skips
    → IsScanOf columns first (groups ++ group ∷ []) new
scanned_more columns first now groups group counts old new same so_far run segments loads skips = record {
  segments = omega (arith, so_far.segments, segments, length-append groups (group ∷ []));
  loads = loads ∙ one_more (loads_in columns first) groups group _ _ so_far.loads (run.loads ∙ ap (λ (scan : Scan). loads_in columns scan group) same);
  skips = skips ∙ one_more (skips_in columns first) groups group _ _ so_far.skips (run.skips ∙ ap (λ (scan : Scan). skips_in columns scan group) same);
}

pub few_more : (rows more : ℕ) (counts : Counts) (old new : Scanned) → 1 ≤ more → AreFew rows old → counts.loads + counts.skips ≤ 4096 → new.segments ≡ old.segments + 1
    → new.loads ≡ old.loads + counts.loads → new.skips ≡ old.skips + counts.skips → AreFew (rows + more) new
few_more rows more counts old new some few bounded segments loads skips = record {
  segments = omega (arith, few.segments, segments, some);
  loads = omega (arith, few.loads, segments, loads, bounded);
  skips = omega (arith, few.skips, segments, skips, bounded);
}
