-- The numbers of what a text spells are below 2^64, and its registers are of the 64.
use Rattle.std.proofs.Common.{◌≡◌, refl, ℕ, ◌^◌, Bool, true, false, cond, List, Some, None, nat_lt}
use Rattle.std.specs.List.{list_all}
use Rattle.std.proofs.lemmas.Option.{cond_some}
use Rattle.bw_text.specs.Lines.{NumberedWords, lines_in, from_line}
use Rattle.bw_text.specs.Number.{natural_of, are_digits, digits_value, where_64_bits_hold}
use Rattle.bw_cert_text.specs.CertificateFields.{CertificateFields}
use Rattle.bw_cert_text.specs.CertificateText.{SpellsFrom, before_end, at_end, IsCertificateText}
use Rattle.bw_cert_text.specs.LineText.{Node, Chain, Row, Body}
use Rattle.bw_text.proofs.RegisterLemmas.{register_is}
use Rattle.bw_cert_text.specs.PrintText.{body_tokens}
use Rattle.bw_cert_text.specs.Reprint.{is_small, numbers_fit}
use Rattle.bw_cert_text.specs.Token.{Token, Number, Perhaps, Register, IsSpelled, AreSpelled, none}
use Rattle.bw_cert_text.specs.Token.{next, node_tokens, chain_tokens, row_tokens, end_tokens}

below_so : (bound m n : ℕ) → cond (nat_lt m bound) (Some m) None ≡ Some n → nat_lt n bound ≡ true
below_so bound m n e = let is = cond_some (nat_lt m bound) m n e in rw (← is.1) is.0

natural_small : (word : List ℕ) (n : ℕ) → natural_of word ≡ Some n → nat_lt n (2 ^ 64) ≡ true
unfolding natural_of
natural_small word n e = go (are_digits word) e
  where
    go : (b : Bool) → cond b (where_64_bits_hold (digits_value word)) None ≡ Some n → nat_lt n (2 ^ 64) ≡ true
    go true e = below_so (2 ^ 64) (digits_value word) n e
    go false e = absurd (cc e)

token_small : (t : Token) (word : List ℕ) → IsSpelled t word → is_small t ≡ true
token_small (Number n) word is = natural_small word n is
token_small (Perhaps (Some n)) word is = natural_small word n is
token_small (Register r) word is = register_is word r is
token_small _ word is = refl

tokens_small : (ts : List Token) (words : List (List ℕ)) → AreSpelled ts words → list_all is_small ts ≡ true
tokens_small _ _ none = refl
tokens_small _ _ (next {token = t} {word = word} {tokens = ts} {words = words} is rest) = rw (token_small t word is) (tokens_small ts words rest)

lines_small : (s : ℕ) (lines : List NumberedWords) (c : CertificateFields) → SpellsFrom s lines c → numbers_fit c ≡ true
lines_small s _ _ (before_end {line = line} (Node x) {lines = lines} {rest = c} le says rest) = rw (tokens_small (node_tokens x) line.words says.1) (lines_small 0 lines c rest)
lines_small s _ _ (before_end {line = line} (Chain x) {lines = lines} {rest = c} le says rest) = rw (tokens_small (chain_tokens x) line.words says.1) (lines_small 1 lines c rest)
lines_small s _ _ (before_end {line = line} (Row x) {lines = lines} {rest = c} le says rest) = rw (tokens_small (row_tokens x) line.words says.1) (lines_small 2 lines c rest)
lines_small s _ _ (before_end {line = line} (Body x) {lines = lines} {rest = c} le says rest) = rw (tokens_small (body_tokens x) line.words says.1) (lines_small 3 lines c rest)
lines_small s _ _ (at_end {line = line} end says) = tokens_small (end_tokens end) line.words says.1

pub text_small : (first : ℕ) (text : List ℕ) (c : CertificateFields) → IsCertificateText first text c → numbers_fit c ≡ true
text_small first text c is = lines_small 0 (lines_in (from_line first text)) c is
