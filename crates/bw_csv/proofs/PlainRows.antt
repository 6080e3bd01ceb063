-- The values of a record's plain fields, one more at a time.
use Rattle.std.proofs.Common.{◌≡◌, ◌∙◌, ℕ, ◌+◌, ◌≤◌, List, [], ◌∷◌, ◌++◌, length, take, drop, Ok}
use Rattle.std.proofs.Common.{true, false, refl, sym, ap, eqb, append_assoc, length-append, inl}
use Rattle.std.proofs.Common.{inr, append-nil, take-append-drop}
use Rattle.std.proofs.lemmas.Bool.{both_ways, eqb-true, or_cases}
use Rattle.csv.specs.Machine.{next_record}
use Rattle.csv.specs.Reading.{default_config}
use Rattle.csv.specs.declared.parser.State.TheVariants as st
use Rattle.bw_csv.specs.declared.rule.FieldRule.{FieldRule}
use Rattle.bw_model.specs.Limits.{most_rows}
use Rattle.bw_model.specs.Row.{Value}
use Rattle.bw_csv.specs.Plain.{HasRow, IsPlainField, ends_line, is_field_end, is_line_end}
use Rattle.bw_csv.specs.Rows.{value_of_field, values_of_fields}
use Rattle.bw_csv.proofs.FieldLemmas.{after, after-nothing, values-end, values-next}
use Rattle.bw_csv.proofs.PlainRecords.{begins, field-comma, field-end}
use Rattle.bw_csv.proofs.RowLemmas.{row_made}

-- Of a text's first record these are the values so far, of this many fields, and this is left of
-- the text.
pub record ReadSoFar (number : ℕ) (rules : List FieldRule) (text rest : List ℕ) (i : ℕ) (values : List Value) : Type 0 where
  pub done : List (List ℕ)
  pub many : length done ≡ i
  pub reads : next_record default_config st.StartRecord [] [] text ≡ next_record default_config st.StartField done [] rest
  pub spelled : (more : List (List ℕ)) → values_of_fields number rules (done ++ more) ≡ after values (values_of_fields number (drop i rules) more)

pub read-nothing : (number : ℕ) (rules : List FieldRule) (text : List ℕ) → is_line_end text ≡ false → ReadSoFar number rules text text 0 []
read-nothing number rules [] e = absurd (cc e)
read-nothing number rules (c ∷ cs) e =
    record { done = []; many = refl; reads = begins c cs e; spelled = λ more. after-nothing (values_of_fields number rules more) }

-- one more field
values_more : (number : ℕ) (rules : List FieldRule) (i : ℕ) (values : List Value) (done : List (List ℕ)) (field : List ℕ) (rule : FieldRule) (value : Value)
    → ((more : List (List ℕ)) → values_of_fields number rules (done ++ more) ≡ after values (values_of_fields number (drop i rules) more))
    → drop i rules ≡ rule ∷ drop (i + 1) rules → value_of_field number rule field ≡ Ok value
    → (more : List (List ℕ)) → values_of_fields number rules ((done ++ field ∷ []) ++ more) ≡ after (values ++ value ∷ []) (values_of_fields number (drop (i + 1) rules) more)
values_more number rules i values done field rule value spelled here v more =
    ap (λ (fields : List (List ℕ)). values_of_fields number rules fields) (append_assoc done (field ∷ []) more)
    ∙ spelled (field ∷ more)
    ∙ values-next number (drop i rules) (drop (i + 1) rules) (field ∷ more) more rule field value values here refl v

-- what is left after a field begins with a comma, unless the field is the last
comma_is : (after_field : List ℕ) → is_field_end after_field ≡ true → is_line_end after_field ≡ false → after_field ≡ 44 ∷ drop 1 after_field
comma_is [] e f = absurd (cc f)
comma_is (c ∷ cs) e f = elim (or_cases (eqb c 44) (ends_line c) e) [
  | inl h ↦ ap (λ (d : ℕ). d ∷ cs) (eqb-true c 44 h)
  | inr k ↦ absurd (both_ways (ends_line c) f k)
]

pub read-next : (number : ℕ) (rules : List FieldRule) (text rest : List ℕ) (i : ℕ) (values : List Value) (rule : FieldRule) (size : ℕ) (value : Value)
    → ReadSoFar number rules text rest i values → drop i rules ≡ rule ∷ drop (i + 1) rules
    → IsPlainField rest size → value_of_field number rule (take size rest) ≡ Ok value → is_line_end (drop size rest) ≡ false
    → ReadSoFar number rules text (drop 1 (drop size rest)) (i + 1) (values ++ value ∷ [])
read-next number rules text rest i values rule size value so_far here plain v e =
    let field = take size rest in
    let next = drop 1 (drop size rest) in
    let parts : rest ≡ field ++ 44 ∷ next = sym (take-append-drop size rest) ∙ ap (λ (l : List ℕ). field ++ l) (comma_is (drop size rest) plain.2 e) in
    record {
      done = so_far.done ++ field ∷ [];
      many = length-append so_far.done (field ∷ []) ∙ ap (λ (n : ℕ). n + 1) so_far.many;
      reads = so_far.reads ∙ ap (λ (l : List ℕ). next_record default_config st.StartField so_far.done [] l) parts ∙ field-comma so_far.done field next plain.1;
      spelled = values_more number rules i values so_far.done field rule value so_far.spelled here v;
    }

-- the last field
pub read-last : (number : ℕ) (rules : List FieldRule) (text rest : List ℕ) (i : ℕ) (values : List Value) (rule : FieldRule) (size : ℕ) (value : Value)
    → ReadSoFar number rules text rest i values → drop i rules ≡ rule ∷ drop (i + 1) rules
    → IsPlainField rest size → value_of_field number rule (take size rest) ≡ Ok value → is_line_end (drop size rest) ≡ true
    → number ≤ most_rows → i + 1 ≡ length rules → drop (i + 1) rules ≡ []
    → HasRow number rules text (drop size rest) (values ++ value ∷ [])
read-last number rules text rest i values rule size value so_far here plain v e few all none =
    let field = take size rest in
    let fields = so_far.done ++ field ∷ [] in
    let many : length fields ≡ length rules = length-append so_far.done (field ∷ []) ∙ ap (λ (n : ℕ). n + 1) so_far.many ∙ all in
    let reads = so_far.reads ∙ ap (λ (l : List ℕ). next_record default_config st.StartField so_far.done [] l) (sym (take-append-drop size rest)) in
    let spelled = values_more number rules i values so_far.done field rule value so_far.spelled here v [] in
    record {
      fields = fields;
      first = field-end text so_far.done field (drop size rest) plain.1 e reads;
      row = row_made number rules fields (values ++ value ∷ []) few many
          (ap (λ (l : List (List ℕ)). values_of_fields number rules l) (sym (append-nil fields)) ∙ spelled ∙ values-end number (drop (i + 1) rules) [] (values ++ value ∷ []) none);
    }
