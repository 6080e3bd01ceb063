-- The values of columns in lanes, as fields.
use Rattle.std.specs.Prelude.{ℕ, Bool, List, take, drop}
use Rattle.bw_model.specs.Row.{Value, value_in}
use Rattle.bw_model.specs.Selection.{positions_from}
use Rattle.bw_rowwise.specs.Columns.{row_in}
use Rattle.bw_rowwise.specs.declared.columns.Columns.{Columns}
use Rattle.bw_answer.specs.Columns.{fields_of}

-- the value in a lane of the column at a place
abbrev pub value_in_lane : Columns → ℕ → ℕ → Value
value_in_lane lanes number place = value_in (row_in lanes number) place

-- the values in a lane of the columns at these places, as fields
abbrev pub fields_in_lane : Columns → List ℕ → ℕ → List (List ℕ)
fields_in_lane lanes places number = fields_of places (row_in lanes number)

-- the positions of the bits that are 1, from position `first` up to `past`
abbrev pub positions_between : ℕ → ℕ → List Bool → List ℕ
positions_between first past bits = positions_from first (drop first (take past bits))
