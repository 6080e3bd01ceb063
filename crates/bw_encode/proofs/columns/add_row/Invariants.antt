use Rattle.std.proofs.Common.{◌≡◌, ◌<◌, ◌≤◌, ◌∷◌, ◌++◌, [], ℕ, length, get_or}
use Rattle.bw_encode.specs.Selection.{place_at}
use Rattle.bw_encode.proofs.columns.add_row.Given as goal

-- the columns before this one have the record's field
abbrev pub invariant-loop-k : goal.invariant-loop-k
invariant-loop-k l = record {
  size : length l.columns.items ≡ length l.fn.columns.items;
  done : (j : ℕ) → j < l.k → get_or l.columns.items j [] ≡ get_or l.fn.columns.items j [] ++ get_or l.fields (place_at l.selection.columns j) [] ∷ [];
  left : (j : ℕ) → l.k ≤ j → get_or l.columns.items j [] ≡ get_or l.fn.columns.items j [];
}
