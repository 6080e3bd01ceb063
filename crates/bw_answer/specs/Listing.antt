-- The listing of a query that lists rows.
use Rattle.std.specs.Prelude.{List}
use Rattle.bw_model.specs.declared.query.Item.{Item}
use Rattle.bw_rowwise.specs.Columns.{numbers_of}
use Rattle.bw_answer.specs.Columns.{columns_of}
use Rattle.bw_answer.specs.Places.{AreAt}
use Rattle.bw_answer.specs.declared.listing.Listing.{Listing}

-- a listing is of the items' columns
abbrev pub IsListing : Listing → List Item → Type 0
IsListing listing items = AreAt (numbers_of listing.columns) (columns_of items) listing.fields.items
