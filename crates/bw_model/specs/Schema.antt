-- What every schema satisfies by its type, in lists and numbers.
use Rattle.std.specs.Prelude.{◌≡◌, true, FitsSigned, All}
use Rattle.std.specs.Int.{w64}
use Rattle.bw_model.specs.Name.{is_name}
use Rattle.bw_model.specs.SchemaText.{ColumnShape, SchemaShape}

-- a column's name is valid, and its bounds fit 64 bits
pub record IsColumn (column : ColumnShape) : Type 0 where
  pub name : is_name column.name ≡ true
  pub lo : FitsSigned w64 column.lo
  pub hi : FitsSigned w64 column.hi

-- a schema's name is valid, and so is each of its columns
pub record IsSchema (schema : SchemaShape) : Type 0 where
  pub name : is_name schema.name ≡ true
  pub columns : All IsColumn schema.columns
