-- Registers are read as they are written.
use Rattle.std.proofs.Common.{◌≡◌, refl, ℕ, ◌<◌, Bool, true, false, ◌||◌, ◌==◌, cond, List, drop}
use Rattle.std.proofs.Common.{Option, Some, None, slice_index, arith, decimal, lt-ltb}
use Rattle.bw_text.specs.Number.{natural_of}
use Rattle.bw_text.specs.Printing.{is_plain_word}
use Rattle.bw_text.specs.Register.{is_register, register_below, register_of, register_text}
use Rattle.bw_text.proofs.DecimalLemmas.{decimal_spells, natural_of-decimal, plain_digits}

-- a register that a word names is one of the 64
pub register_is : (word : List ℕ) (n : ℕ) → register_of word ≡ Some n → is_register n ≡ true
unfolding register_of
register_is word n e = go ((slice_index word 0 == 114) || (slice_index word 0 == 82)) (natural_of (drop 1 word)) e
  where
    below_so : (o : Option ℕ) → register_below o ≡ Some n → is_register n ≡ true
    below_so None e = absurd (cc e)
    below_so (Some m) e = at (is_register m) refl e
      where
        at : (b : Bool) → is_register m ≡ b → cond b (Some m) None ≡ Some n → is_register n ≡ true
        at true is e = let same : m ≡ n = cc e in rw (← same) is
        at false is e = absurd (cc e)

    go : (b : Bool) (o : Option ℕ) → cond b (register_below o) None ≡ Some n → is_register n ≡ true
    go true o e = below_so o e
    go false o e = absurd (cc e)

pub register_of-text : (r : ℕ) → r < 64 → register_of (register_text r) ≡ Some r
unfolding register_of
register_of-text r lt = rw (natural_of-decimal r (omega arith), lt-ltb r 64 lt) refl

pub plain_register : (r : ℕ) → r < 64 → is_plain_word (register_text r) ≡ true
plain_register r lt = plain_digits (decimal r) (decimal_spells r (omega arith)).all
