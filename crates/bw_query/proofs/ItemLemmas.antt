-- Every column, as items.
use Rattle.std.proofs.Common.{◌≡◌, ℕ, zero, suc, ◌+◌, ◌≤◌, true, map, refl, arith}
use Rattle.std.specs.List.{list_all, range_with_len}
use Rattle.std.proofs.lemmas.Bool.{lt-ltb}
use Rattle.bw_model.specs.declared.query.Item.TheVariants.{Plain}
use Rattle.bw_model.specs.Total.{item_within}
use Rattle.bw_sql.specs.Items.{are_of_kind}

pub columns_within : (width first count : ℕ) → first + count ≤ width → list_all (item_within width) (map Plain (range_with_len first count)) ≡ true
columns_within width first zero h = refl
columns_within width first (suc count) h = let here = lt-ltb first width (omega (arith, h)) in rw here (columns_within width (first + 1) count (omega (arith, h)))

pub columns_plain : (first count : ℕ) → are_of_kind true (map Plain (range_with_len first count)) ≡ true
columns_plain first zero = refl
columns_plain first (suc count) = columns_plain (first + 1) count
