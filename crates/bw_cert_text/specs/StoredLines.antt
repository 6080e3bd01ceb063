-- How the lines after the product rows are stored: the forms of all lines, then their numbers one
-- after another, and the pairs of rows of all lines KEEP one after another.
use Rattle.std.specs.Prelude.{ℕ, Bool, true, false, ◌&&◌, if◌then◌else◌, List, [], ◌∷◌, length}
use Rattle.std.specs.Prelude.{take, drop, Option, Some, None, nat_le}
use Rattle.bw_cert_text.specs.declared.stored_form.StoredForm.{StoredForm}
use Rattle.bw_cert_text.specs.declared.stored_form.StoredForm.TheVariants as form
use Rattle.bw_cert_text.specs.declared.lines.BodyLine.{BodyLine}
use Rattle.bw_cert_text.specs.declared.lines.ConditionEntry.{ConditionEntry}
use Rattle.bw_cert_text.specs.declared.lines.ConditionEntry.TheVariants.{Compare, CompareColumns}
use Rattle.bw_cert_text.specs.declared.lines.ConditionEntry.TheVariants.{Fixed, NullTest, And, Or}
use Rattle.bw_cert_text.specs.declared.lines.ConditionEntry.TheVariants.{Not, Is, IsUnknown}
use Rattle.bw_cert_text.specs.declared.lines.EdgeProducts.{EdgeProducts}
use Rattle.bw_cert_text.specs.declared.lines.Entry.{Entry}
use Rattle.bw_cert_text.specs.declared.lines.Entry.TheVariants.{Condition, Instruction, Join, Keep}
use Rattle.bw_cert_text.specs.declared.lines.InstructionEntry.TheVariants.{Load, Fill, Op, Byte}
use Rattle.bw_cert_text.specs.declared.lines.InstructionEntry.TheVariants.{Skip}

-- how many numbers a line has, the first of which is the line's own
abbrev pub size : StoredForm → ℕ
size (form.Compare chain value) = 5
size (form.CompareColumns chain left right) = 7
size form.Fixed = 1
size form.NullTest = 2
size form.And = 3
size form.Or = 3
size form.Not = 1
size form.Is = 2
size form.IsUnknown = 3
size form.Load = 2
size form.Fill = 1
size form.Op = 2
size (form.Byte chain) = 2
size form.Skip = 1
size form.Join = 2
size (form.Keep register) = 4

-- how many pairs of rows a line has, which is the last number of a line KEEP
abbrev pub pairs_of : StoredForm → List ℕ → ℕ
pairs_of (form.Keep register) (line ∷ node ∷ through ∷ count ∷ []) = count
pairs_of _ numbers = 0

-- a number, or `-`
abbrev pub number_if : Bool → ℕ → Option ℕ
number_if true number = Some number
number_if false number = None

-- the fields of a condition's step, from the numbers after the line's own
abbrev pub condition_of : StoredForm → List ℕ → ConditionEntry
condition_of (form.Compare c v) (chain ∷ value ∷ p ∷ q ∷ []) = Compare (number_if c chain)
    (number_if v value) p q
condition_of (form.CompareColumns c l r) (chain ∷ left ∷ right ∷ both ∷ p ∷ q ∷ []) =
    CompareColumns (number_if c chain) (number_if l left) (number_if r right) both p q
condition_of form.NullTest (i ∷ []) = NullTest i
condition_of form.And (i ∷ j ∷ []) = And i j
condition_of form.Or (i ∷ j ∷ []) = Or i j
condition_of form.Not [] = Not
condition_of form.Is (i ∷ []) = Is i
condition_of form.IsUnknown (i ∷ j ∷ []) = IsUnknown i j
condition_of _ numbers = Fixed

-- the fields of a line, from the numbers after its own and from its pairs
abbrev pub entry_of : StoredForm → List ℕ → List EdgeProducts → Entry
entry_of form.Load (node ∷ []) pairs = Instruction (Load node)
entry_of form.Fill [] pairs = Instruction Fill
entry_of form.Op (i ∷ []) pairs = Instruction (Op i)
entry_of (form.Byte c) (chain ∷ []) pairs = Instruction (Byte (number_if c chain))
entry_of form.Skip [] pairs = Instruction Skip
entry_of form.Join (target ∷ []) pairs = Join target
entry_of (form.Keep r) (node ∷ through ∷ count ∷ []) pairs =
    Keep (record {
      register = r.register;
      node = node;
      through = through;
      edges = pairs;
      in_range = r.in_range;
    })
entry_of form numbers pairs = Condition (condition_of form numbers)

abbrev pub line_of : StoredForm → List ℕ → List EdgeProducts → BodyLine
line_of form [] pairs = record { line = 0; entry = entry_of form [] pairs }
line_of form (line ∷ numbers) pairs = record { line = line; entry = entry_of form numbers pairs }

-- there are as many numbers and pairs as the first line has
abbrev pub is_there : StoredForm → List ℕ → List EdgeProducts → Bool
is_there form numbers pairs = nat_le (size form) (length numbers)
    && nat_le (pairs_of form (take (size form) numbers)) (length pairs)

-- the lines, up to the first one whose numbers or pairs are missing
unfoldable pub lines_of : List StoredForm → List ℕ → List EdgeProducts → List BodyLine
lines_of [] numbers pairs = []
lines_of (form ∷ forms) numbers pairs =
    let own : List ℕ = take (size form) numbers in
    if is_there form numbers pairs then
    (line_of form own (take (pairs_of form own) pairs)
    ∷ lines_of forms (drop (size form) numbers) (drop (pairs_of form own) pairs))
    else []

-- the numbers and the pairs are exactly those of these lines
unfoldable pub are_all : List StoredForm → List ℕ → List EdgeProducts → Bool
are_all [] [] [] = true
are_all [] numbers pairs = false
are_all (form ∷ forms) numbers pairs =
    is_there form numbers pairs
    && are_all forms (drop (size form) numbers)
    (drop (pairs_of form (take (size form) numbers)) pairs)
