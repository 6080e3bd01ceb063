-- Records, written from their last byte to their first.
use Rattle.std.proofs.Common.{◌≡◌, ◌∙◌, ℕ, ◌+◌, ◌-◌, ◌<◌, List, [], ◌∷◌, ◌++◌, sym, ap, map, length}
use Rattle.std.proofs.Common.{drop, get_or, append_assoc, arith}
use Rattle.std.proofs.lemmas.List.{drop_more, length-map, length-drop}
use Rattle.bw_answer.specs.Answer.{record_text}

-- a field in front of others
field_first : (field : List ℕ) (fields : List (List ℕ)) → 0 < length fields → record_text (field ∷ fields) ≡ field ++ 44 ∷ record_text fields
field_first field [] some = absurd (omega arith)
field_first field (next ∷ fields) some = append_assoc field (44 ∷ _) (10 ∷ [])

-- the field of one more column, the comma after it, and the fields from there on
pub record_grows : (f : ℕ → List ℕ) (columns : List ℕ) (left : ℕ) (field comma text rest : List ℕ) → 0 < left → left < length columns
    → text ≡ record_text (map f (drop left columns)) ++ rest → comma ≡ 44 ∷ text → field ≡ f (get_or columns (left - 1) 0) ++ comma
    → field ≡ record_text (map f (drop (left - 1) columns)) ++ rest
record_grows f columns left field comma text rest some within written between put =
    let one : left - 1 + 1 ≡ left = omega arith in
    let more : drop (left - 1) columns ≡ get_or columns (left - 1) 0 ∷ drop left columns = drop_more columns (left - 1) 0 (omega arith) ∙ ap (λ n. get_or columns (left - 1) 0 ∷ drop n columns) one in
    let here = f (get_or columns (left - 1) 0) in
    let those = map f (drop left columns) in
    let long : 0 < length those = omega (arith, length-map (drop left columns) f, length-drop left columns) in
    put ∙ ap (λ (l : List ℕ). here ++ l) (between ∙ ap (λ (l : List ℕ). 44 ∷ l) written) ∙ sym (append_assoc here (44 ∷ record_text those) rest)
    ∙ sym (ap (λ (l : List ℕ). l ++ rest) (ap (λ (l : List ℕ). record_text (map f l)) more ∙ field_first here those long))
