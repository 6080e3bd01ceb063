-- A condition that filters rows.
use Rattle.std.specs.Prelude.{◌≡◌, List}
use Rattle.bw_model.specs.declared.cond.Cond.{Cond}
use Rattle.bw_model.specs.Cond.{truth_of}
use Rattle.bw_model.specs.Row.{Value}
use Rattle.bw_rowwise.specs.Columns.{numbers_of, values_in}
use Rattle.bw_rowwise.specs.Prepared.{prepared_truth}
use Rattle.bw_rowwise.specs.declared.filter.Filter.{Filter}

-- a filter has a condition's truth on every row
abbrev pub IsPreparedFrom : Cond → Filter → Type 0
IsPreparedFrom cond filter = (row : List Value)
    → prepared_truth (values_in (numbers_of filter.columns) row) filter.cond ≡ truth_of row cond
