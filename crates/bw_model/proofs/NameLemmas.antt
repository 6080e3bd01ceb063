-- Names are plain words, so they are read as they are written; and a column that a word names is
-- there.
use Rattle.std.proofs.Common.{◌≡◌, refl, ℕ, Bool, true, false, cond, not, ◌&&◌, List, length, Some}
use Rattle.std.proofs.Common.{None, nat_le, nat_lt}
use Rattle.std.specs.List.{position_or_len}
use Rattle.std.proofs.lemmas.Bool.{and_parts}
use Rattle.bw_model.specs.declared.column.Column.{Column}
use Rattle.bw_model.specs.Column.{column_named}
use Rattle.bw_model.specs.Limits.{longest_name}
use Rattle.bw_model.specs.Name.{is_name}
use Rattle.bw_text.specs.Keyword.{is_reserved}
use Rattle.bw_text.specs.Printing.{is_plain_word}
use Rattle.bw_text.specs.Text.{is_word, same_text}
use Rattle.bw_text.proofs.SpacedWords.{plain_word}

pub plain_name : (text : List ℕ) → is_name text ≡ true → is_plain_word text ≡ true
unfolding is_name
plain_name text h =
    let named = and_parts (is_word text && nat_le (length text) longest_name) (not (is_reserved text)) h in
    plain_word text (and_parts (is_word text) (nat_le (length text) longest_name) named.0).0

pub named_column_is_there : (columns : List Column) (word : List ℕ) (n : ℕ) → column_named columns word ≡ Some n → nat_lt n (length columns) ≡ true
unfolding column_named
named_column_is_there columns word n e = go (nat_lt (position_or_len test columns) (length columns)) refl e
  where
    test : Column → Bool
    test column = same_text column.name word

    go : (b : Bool) → nat_lt (position_or_len test columns) (length columns) ≡ b → cond b (Some (position_or_len test columns)) None ≡ Some n → nat_lt n (length columns) ≡ true
    go true is e = let same : position_or_len test columns ≡ n = cc e in rw (← same) is
    go false is e = absurd (cc e)
