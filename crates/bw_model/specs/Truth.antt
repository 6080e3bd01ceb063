-- Truth in three values, after SQL-92: FALSE is less than UNKNOWN, and UNKNOWN less than TRUE.
use Rattle.std.specs.Prelude.{ℤ, Bool, true, false, List, [], ◌∷◌, Some, None, map, not, int_lt}
use Rattle.std.specs.Prelude.{int_le}
use Rattle.std.specs.Ordering.{int_eq}
use Rattle.bw_model.specs.declared.cond.Truth.{Truth}
use Rattle.bw_model.specs.declared.cond.Truth.TheVariants.{No, Unknown, Yes}
use Rattle.bw_model.specs.declared.cond.Op.{Op}
use Rattle.bw_model.specs.declared.cond.Op.TheVariants.{Eq, Ne, Lt, Gt, Le, Ge}
use Rattle.bw_model.specs.Row.{Value}

-- TRUE or FALSE
abbrev pub truth_from : Bool → Truth
truth_from true = Yes
truth_from false = No

-- AND of two truth values is their minimum
abbrev pub least : Truth → Truth → Truth
least No t = No
least Unknown No = No
least Unknown Unknown = Unknown
least Unknown Yes = Unknown
least Yes t = t

-- OR of two truth values is their maximum
abbrev pub greatest : Truth → Truth → Truth
greatest Yes t = Yes
greatest Unknown Yes = Yes
greatest Unknown Unknown = Unknown
greatest Unknown No = Unknown
greatest No t = t

-- AND and OR of a list
abbrev pub all_of : List Truth → Truth
all_of [] = Yes
all_of (t ∷ ts) = least t (all_of ts)

abbrev pub any_of : List Truth → Truth
any_of [] = No
any_of (t ∷ ts) = greatest t (any_of ts)

-- NOT exchanges TRUE and FALSE, and leaves UNKNOWN
abbrev pub negation : Truth → Truth
negation No = Yes
negation Unknown = Unknown
negation Yes = No

-- the truth value is this one
abbrev pub is_truth : Truth → Truth → Bool
is_truth No No = true
is_truth Unknown Unknown = true
is_truth Yes Yes = true
is_truth No Unknown = false
is_truth No Yes = false
is_truth Unknown No = false
is_truth Unknown Yes = false
is_truth Yes No = false
is_truth Yes Unknown = false

-- the comparison is true of two whole numbers
abbrev pub holds : Op → ℤ → ℤ → Bool
holds Eq x y = int_eq x y
holds Ne x y = not (int_eq x y)
holds Lt x y = int_lt x y
holds Gt x y = int_lt y x
holds Le x y = int_le x y
holds Ge x y = int_le y x

-- the comparison that is true of y and x exactly if this one is true of x and y
abbrev pub swap_operands : Op → Op
swap_operands Eq = Eq
swap_operands Ne = Ne
swap_operands Lt = Gt
swap_operands Gt = Lt
swap_operands Le = Ge
swap_operands Ge = Le

-- a comparison is UNKNOWN if an operand is null
abbrev pub compare_values : Op → Value → Value → Truth
compare_values op None y = Unknown
compare_values op (Some m) None = Unknown
compare_values op (Some m) (Some n) = truth_from (holds op m n)

-- x BETWEEN y AND z is x >= y AND x <= z
abbrev pub between : Value → Value → Value → Truth
between x y z = least (compare_values Ge x y) (compare_values Le x z)

-- x IN (a, b, ..) is x = a OR x = b OR ..
abbrev pub in_list : Value → List Value → Truth
in_list x items = any_of (map (compare_values Eq x) items)

-- the value is null
abbrev pub is_null : Value → Bool
is_null None = true
is_null (Some n) = false
