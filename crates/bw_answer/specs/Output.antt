-- What a query makes of the rows that match it.
use Rattle.std.proofs.Props.{props}
use Rattle.std.specs.Prelude.{◌≡◌, true, false, IsTrue, List, []}
use Rattle.std.specs.List.{list_all}
use Rattle.bw_model.specs.declared.query.Item.{Item}
use Rattle.bw_model.specs.Row.{Value}
use Rattle.bw_model.specs.Total.{is_aggregate}
use Rattle.bw_rowwise.specs.Accumulator.{Tally}
use Rattle.bw_rowwise.specs.Columns.{HaveRows}
use Rattle.bw_answer.specs.Answer.{lists_rows}
use Rattle.bw_answer.specs.Listing.{IsListing}
use Rattle.bw_answer.specs.declared.output.Output.{Output}
use Rattle.bw_answer.specs.declared.output.Output.TheVariants.{Listing, Totals}

-- it is that of a query of these items: it lists their columns, or they are aggregates
abbrev pub IsOutputOf : Output → List Item → Type 0
IsOutputOf (Listing listing) items = (lists_rows items ≡ true) × IsListing listing items
IsOutputOf (Totals totals) items = (lists_rows items ≡ false)
    × IsTrue (list_all is_aggregate items)

-- its totals, if it doesn't list rows
abbrev pub totals_in : Output → List Tally
totals_in (Listing listing) = []
totals_in (Totals totals) = totals.items

-- these rows were gathered for it, if it lists rows
abbrev pub HaveListed : List (List Value) → Output → Type 0
HaveListed rows (Listing listing) = HaveRows rows listing.columns
HaveListed rows (Totals totals) = Unit {0}

-- which is a fact
pub output_is_prop : (output : Output) (items : List Item) → IsProp (IsOutputOf output items)
output_is_prop (Listing listing) items = Prim.hlevel props
output_is_prop (Totals totals) items = Prim.hlevel props
