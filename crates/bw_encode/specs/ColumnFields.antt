-- The fields of a column, and their values if they are numbers.
use Rattle.std.specs.Prelude.{◌≡◌, ◌∷◌, ◌++◌, [], true, ℕ, List, map, All}
use Rattle.bw_model.specs.Row.{Value}
use Rattle.bw_model.specs.SchemaText.{is_range}
use Rattle.bw_encode.specs.declared.column_fields.Content.{Content}
use Rattle.bw_encode.specs.declared.column_fields.Content.TheVariants as content
use Rattle.bw_encode.specs.declared.column_fields.Next.{Next}
use Rattle.bw_encode.specs.declared.seen.Seen.{Seen}
use Rattle.bw_encode.specs.Column.{AreNumbers, AreTexts}
use Rattle.bw_encode.specs.Number.{FitsValue, Spells, value_text}
use Rattle.bw_encode.specs.Seen.{IsSeenOf}

-- the values fit 64 bits, and a table can have them in one column; this is seen of them
pub record AreStored (values : List Value) (seen : Seen) : Type 0 where
  pub fit : All FitsValue values
  pub bounds : IsSeenOf values seen
  pub range : is_range seen.lo seen.hi ≡ true

-- the fields are numbers, and this is seen of their values; or they aren't
abbrev pub IsContentOf : List (List ℕ) → Content → Type 0
IsContentOf fields (content.Numbers values seen) = AreNumbers fields values.now × IsSeenOf values.now seen
    × (is_range seen.lo seen.hi ≡ true)
IsContentOf fields (content.Texts texts) = (texts.now ≡ fields) × AreTexts fields

-- a field spells this value, and this is seen of any values and it, which a column can have
pub record IsNext (seen : Seen) (field : List ℕ) (next : Next) : Type 0 where
  pub spells : Spells field next.value
  pub bounds : (values : List Value) → IsSeenOf values seen
      → IsSeenOf (values ++ next.value ∷ []) next.seen
  pub range : is_range next.seen.lo next.seen.hi ≡ true

-- with the field, stored values are no column of numbers
abbrev pub IsNoNext : Seen → List ℕ → Type 0
IsNoNext seen field = (values : List Value) → AreStored values seen
    → AreTexts (map value_text values ++ field ∷ [])
