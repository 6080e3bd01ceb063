-- The result of an accumulator, by the rows that were added.
use Rattle.std.specs.Prelude.{ℕ, ◌+◌, ℤ, pos, ◌*◌, ◌^◌, ◌≤ℤ◌, neg_ℤ, List, Option, Some, None}
use Rattle.std.specs.Prelude.{length}
use Rattle.std.specs.Option.{ForSome, option_map}
use Rattle.bw_model.specs.declared.query.Item.{Item}
use Rattle.bw_model.specs.declared.query.Item.TheVariants.{Plain, CountAll, Count, Sum, Min, Max}
use Rattle.bw_model.specs.Row.{Value, value_in}
use Rattle.bw_model.specs.Total.{combine_totals, of_both, total}

-- an aggregate, the number of rows, and their total
pub record Tally : Type 0 where
  pub item : Item
  pub count : ℕ
  pub answer : Option ℤ

-- the tally of a list of rows
abbrev pub tally_of : Item → List (List Value) → Tally
tally_of item rows = record { item = item; count = length rows; answer = total item rows }

-- a total with one value more, unless it is null
abbrev pub include_value : (ℤ → ℤ → ℤ) → Option ℤ → Value → Option ℤ
include_value f answer None = answer
include_value f None (Some n) = Some n
include_value f (Some m) (Some n) = Some (f m n)

-- the value of a row that an aggregate asks for: that of its column
abbrev pub value_for : Item → List Value → Value
value_for (Plain column) row = value_in row column
value_for CountAll row = None
value_for (Count column) row = value_in row column
value_for (Sum column) row = value_in row column
value_for (Min column) row = value_in row column
value_for (Max column) row = value_in row column

-- what this value of a row adds to an aggregate: null adds nothing, but to a count of rows
abbrev pub added_by : Item → Value → Value
added_by (Plain column) value = None
added_by CountAll value = Some (pos 1)
added_by (Count column) value = option_map (λ _. pos 1) value
added_by (Sum column) value = value
added_by (Min column) value = value
added_by (Max column) value = value

-- the total of an aggregate with one row more, which has this value
abbrev pub answer_with : Item → Option ℤ → Value → Option ℤ
answer_with item answer value = include_value (of_both item) answer (added_by item value)

-- a tally with one row more, which has this value
abbrev pub tally_with : Tally → Value → Tally
tally_with tally value = record {
  item = tally.item;
  count = tally.count + 1;
  answer = answer_with tally.item tally.answer value;
}

-- a tally of rows that are only counted, with this many more
abbrev pub count_rows : Tally → ℕ → Tally
count_rows tally more = record {
  item = tally.item;
  count = tally.count + more;
  answer = Some (pos (tally.count + more));
}

-- a tally with this many rows more, whose total is known
abbrev pub tally_joined : Tally → ℕ → Option ℤ → Tally
tally_joined tally more others = record {
  item = tally.item;
  count = tally.count + more;
  answer = combine_totals tally.item tally.answer others;
}

-- A total of this many rows is at most as many times 2^73 in size. A value is at most 2^63, and the
-- total of a segment's rows, which are 1 to 512, is within 2^73.
abbrev pub IsTotalOfRows : ℕ → Option ℤ → Type 0
IsTotalOfRows count answer =
    ForSome answer (λ n. (neg_ℤ (pos (count * 2 ^ 73)) ≤ℤ n) × (n ≤ℤ pos (count * 2 ^ 73)))
