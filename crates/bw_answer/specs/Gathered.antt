-- Rows that were gathered by columns, for a result's text or its totals.
use Rattle.std.specs.Prelude.{◌≡◌, ◌-◌, ◌≤◌, ◌++◌, ℕ, Bool, false, List, length, map, replicate}
use Rattle.bw_model.specs.Groups.{group_size}
use Rattle.bw_model.specs.Row.{Value}
use Rattle.bw_model.specs.Selection.{selection}
use Rattle.bw_model.specs.declared.cond.Cond.{Cond}
use Rattle.bw_rowwise.specs.Accumulator.{Tally}
use Rattle.bw_rowwise.specs.Columns.{HaveRows, numbers_of}
use Rattle.bw_rowwise.specs.declared.columns.Columns.{Columns}
use Rattle.bw_rowwise.specs.declared.filter.Filter.{Filter}
use Rattle.bw_answer.specs.Output.{HaveListed}
use Rattle.bw_answer.specs.Places.{AreRead}
use Rattle.bw_answer.specs.declared.output.Output.{Output}
use Rattle.bw_answer.specs.declared.selected.Summed.{Summed}

-- the columns of a condition, of what is listed and of totals have these rows
pub record HoldRows (rows : List (List Value)) (count : ℕ) (filter : Filter)
    (output : Output) (totals : Columns) : Type 0 where
  pub many : length rows ≡ count
  pub named : HaveRows rows filter.columns
  pub listed : HaveListed rows output
  pub summed : HaveRows rows totals

-- this many rows, at most 512, are in the columns, and the lanes are those in which the condition is
-- TRUE
pub record AreGathered (rows : List (List Value)) (count : ℕ) (cond : Cond) (lanes : List Bool)
    (output : Output) (totals : Columns) : Type 0 where
  pub many : length rows ≡ count
  pub few : length rows ≤ 512
  pub picks : lanes ≡ selection cond rows ++ replicate (group_size - length rows) false
  pub listed : HaveListed rows output
  pub summed : HaveRows rows totals

-- the column of each of these totals is at its place
abbrev pub AreSummed : Summed → List Tally → Type 0
AreSummed summed totals = AreRead (numbers_of summed.columns)
    (map (λ (tally : Tally). tally.item) totals) summed.places.items
