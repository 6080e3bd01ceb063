-- Bytes that only join the field at hand are read at once.
use Rattle.std.proofs.Common.{◌≡◌, ℕ, ◌+◌, List, [], ◌∷◌, ◌++◌, Bool, true, false, ◌||◌, take, drop, refl, sym, subst, append_assoc, append-nil, rules, suc, arith}
use Rattle.std.proofs.lemmas.Bool.{cond_both}
use Rattle.std.proofs.lemmas.List.{drop-drop}
use Rattle.std.specs.List.{prefix_len}
use Rattle.csv.specs.Machine.{step}
use Rattle.csv.specs.declared.parser.State.{State}
use Rattle.csv.specs.declared.parser.Action.TheVariants as act
use Rattle.csv.specs.declared.parser.State.TheVariants as st
use Rattle.bw_encode.specs.declared.dialect.Dialect.{Dialect}
use Rattle.bw_encode.specs.Dialect.{config_of, goes_on_bare}
use Rattle.bw_encode.specs.Run.{joins_bare, joins_quoted, run_length}
use Rattle.bw_encode.proofs.ReadLemmas.{GoesOn, goes-next}

module _ (dialect : Dialect) (start : State) (text : List ℕ) (state : State) (fields : List (List ℕ)) (loose : Bool) where
  abbrev Goes : List ℕ → List ℕ → Type 0
  Goes field rest = GoesOn dialect start text state fields field rest loose

  -- none of these bytes
  stays : (field xs : List ℕ) → Goes field xs → Goes (field ++ []) xs
  stays field xs on = subst (λ f. Goes f xs) (sym (append-nil field)) on

  -- the bytes of a text that pass a test, if each that does is one of the field's own
  module _ (p : ℕ → Bool) (joins : (c : ℕ) → p c ≡ true → step (config_of dialect) state c ≡ (state, act.Copy)) (bare : goes_on_bare state state ≡ false) where
    one : (field xs : List ℕ) (c : ℕ) → p c ≡ true → Goes field (c ∷ xs) → Goes (field ++ c ∷ []) xs
    one field xs c joined on =
        let same = joins c joined in
        let next = goes-next dialect start text state state fields field xs c loose false on (rw same refl) (rw same refl) (sym bare) in
        rw (same, or_false loose) at next
      where
        or_false : (b : Bool) → (b || false) ≡ b
        or_false true = refl
        or_false false = refl

    run : (field xs : List ℕ) → Goes field xs → Goes (field ++ take (prefix_len p xs) xs) (drop (prefix_len p xs) xs)
    run field [] on = stays field [] on
    run field (c ∷ xs) on = cond_both (p c) (1 + prefix_len p xs) 0 (λ n. Goes (field ++ take n (c ∷ xs)) (drop n (c ∷ xs)))
        (λ joined.
        let more : suc (prefix_len p xs) ≡ 1 + prefix_len p xs = omega arith in
        subst (λ n. Goes (field ++ take n (c ∷ xs)) (drop n (c ∷ xs))) more
        (subst (λ f. Goes f (drop (prefix_len p xs) xs)) (append_assoc field (c ∷ []) (take (prefix_len p xs) xs)) (run (field ++ c ∷ []) xs (one field xs c joined on))))
        (λ ends. stays field (c ∷ xs) on)

-- the bytes that join the field at hand
pub run-next : (dialect : Dialect) (start : State) (text : List ℕ) (state : State) (fields : List (List ℕ)) (field rest : List ℕ) (loose : Bool)
    → GoesOn dialect start text state fields field rest loose
    → GoesOn dialect start text state fields (field ++ take (run_length dialect state rest) rest) (drop (run_length dialect state rest) rest) loose
run-next dialect start text st.InField fields field rest loose on = run dialect start text st.InField fields loose (joins_bare dialect.separator) (λ c joined. search rules) refl field rest on
run-next dialect start text st.InQuoted fields field rest loose on = run dialect start text st.InQuoted fields loose (joins_quoted dialect) (λ c joined. search rules) refl field rest on
run-next dialect start text st.StartRecord fields field rest loose on = stays dialect start text st.StartRecord fields loose field rest on
run-next dialect start text st.StartField fields field rest loose on = stays dialect start text st.StartField fields loose field rest on
run-next dialect start text st.AfterQuote fields field rest loose on = stays dialect start text st.AfterQuote fields loose field rest on
run-next dialect start text st.InEscape fields field rest loose on = stays dialect start text st.InEscape fields loose field rest on
run-next dialect start text st.InComment fields field rest loose on = stays dialect start text st.InComment fields loose field rest on
run-next dialect start text st.AfterCr fields field rest loose on = stays dialect start text st.AfterCr fields loose field rest on

-- the same in a text, from an index on
pub run-on : (dialect : Dialect) (start : State) (text : List ℕ) (state : State) (fields : List (List ℕ)) (field field' : List ℕ) (i n : ℕ) (loose : Bool)
    → GoesOn dialect start text state fields field (drop i text) loose
    → n ≡ run_length dialect state (drop i text) → field' ≡ field ++ take n (drop i text)
    → GoesOn dialect start text state fields field' (drop (i + n) text) loose
run-on dialect start text state fields field field' i n loose on size joined =
    subst (λ rest. GoesOn dialect start text state fields field' rest loose) (drop-drop n i text)
    (rw (joined, size) (run-next dialect start text state fields field (drop i text) loose on))
