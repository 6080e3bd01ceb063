-- The rows of a text, one record more.
use Rattle.std.proofs.Common.{◌≡◌, ◌∙◌, refl, sym, ap, ℕ, zero, suc, ◌+◌, ◌-◌, ◌<◌, ◌≤◌, Bool, true, false, not, ◌&&◌, List, [], ◌∷◌, ◌++◌, length, Some, None, Option, Result, Ok, Err, arith, get_or, append_assoc, append-nil, length-append, replicate, nat_lt, nat_le}
use Rattle.std.proofs.lemmas.Bool.{cond_both, ne_eqb, leb-true}
use Rattle.std.proofs.lemmas.Bool.Decides.{nat_tests}
use Rattle.std.proofs.lemmas.List.{map-append, length-replicate, get_or-replicate, get_or-map, get_or_past}
use Rattle.std.proofs.Math.Seq.{take-nil}
use borrow.Author.Tests.{ltb-true, ltb-false}
use Rattle.csv.specs.Machine.{Read, is_end, next_record, step}
use Rattle.csv.specs.declared.parser.State.{State}
use Rattle.bw_model.specs.declared.fault.Fault.{Fault}
use Rattle.bw_model.specs.Fault.{at_record, ◌>>=◌}
use Rattle.bw_model.specs.Limits.{most_columns, most_rows}
use Rattle.bw_model.specs.FaultTable.{NO_HEADING}
use Rattle.csv.specs.Reading.{strip_bom}
use Rattle.csv.specs.declared.parser.State.TheVariants as st
use Rattle.bw_encode.specs.declared.dialect.Dialect.{Dialect}
use Rattle.bw_encode.specs.declared.records.After.{After}
use Rattle.bw_encode.specs.Dialect.{config_of, goes_on_bare, is_at, is_open, loose_from, loose_in, records_in, records_of}
use Rattle.bw_encode.specs.Place.{state_of}
use Rattle.bw_encode.specs.Records.{IsLoose, IsReadAs, HasNoRecord}
use Rattle.bw_encode.specs.declared.selection.Selection.{Selection}
use Rattle.bw_encode.specs.Rest.{after_read, text_after, text_of, text_past, with_heading}
use Rattle.bw_encode.specs.Rows.{AddsRow, AreColumnsOf, record_checked, rows_from, with_row, field_rows, heading_checked, rows_after, rows_of}
use Rattle.bw_encode.specs.Selection.{Places, count_in, fields_at, filled, has_length, is_past, place_at, row_of, up_to}
use Rattle.bw_encode.proofs.FuelLemmas.{records_in-next, records_in-none}

-- the rows so far, and then the rows to come
abbrev pub after : List (List (List ℕ)) → Result (List (List (List ℕ))) Fault → Result (List (List (List ℕ))) Fault
after rows more = more >>= λ rest. Ok (rows ++ rest)

after-nothing : (more : Result (List (List (List ℕ))) Fault) → more ≡ after [] more
after-nothing (Ok rest) = refl
after-nothing (Err fault) = refl

after-row : (rows : List (List (List ℕ))) (row : List (List ℕ)) (more : Result (List (List (List ℕ))) Fault) → after rows (with_row row more) ≡ after (rows ++ row ∷ []) more
after-row rows row (Ok rest) = ap Ok (sym (append_assoc rows (row ∷ []) rest))
after-row rows row (Err fault) = refl

-- a later record isn't this one
at-later : (dialect : Dialect) (number later : ℕ) (state : State) (text : List ℕ) → number < later → is_at (loose_from dialect later state text) number ≡ false
unfolding loose_from
at-later dialect number later state [] lt = cond_both (is_open state) _ _ (λ (o : Option ℕ). is_at o number ≡ false)
    (λ h. ne_eqb later number (λ e. absurd (omega arith))) (λ h. refl)
at-later dialect number later state (c ∷ cs) lt =
    let next = step (config_of dialect) state c in
    cond_both (goes_on_bare state next.0) _ _ (λ (o : Option ℕ). is_at o number ≡ false)
    (λ h. ne_eqb later number (λ e. absurd (omega arith)))
    (λ h. cond_both (is_end next.1) _ _ (λ (n : ℕ). is_at (loose_from dialect n next.0 cs) number ≡ false)
    (λ e. at-later dialect number (later + 1) next.0 cs (omega arith))
    (λ e. at-later dialect number later next.0 cs lt))

-- whether a dialect rejects a record is whether it is the first with a loose quotation mark
pub at-rejected : (dialect : Dialect) (number : ℕ) (state next : State) (text rest : List ℕ) (loose : Bool) → IsLoose dialect state text loose next rest
    → is_at (loose_in dialect number state text) number ≡ (loose && not dialect.is_lenient)
unfolding loose_from
at-rejected dialect number state next text rest loose is = by dialect.is_lenient refl loose is
  where
    right_false : (b : Bool) → false ≡ (b && false)
    right_false true = refl
    right_false false = refl

    by : (lenient : Bool) → dialect.is_lenient ≡ lenient → (loose : Bool) → IsLoose dialect state text loose next rest
        → is_at (loose_in dialect number state text) number ≡ (loose && not dialect.is_lenient)
    by true e loose is = rw e (right_false loose)
    by false e true is = rw (e, is number) (grind (arith, nat_tests))
    by false e false is = rw (e, is number) (at-later dialect number (number + 1) next rest (omega arith))

pub loose-next : (dialect : Dialect) (number : ℕ) (state next : State) (text rest : List ℕ) (loose : Bool) → IsLoose dialect state text loose next rest
    → (loose && not dialect.is_lenient) ≡ false → loose_in dialect number state text ≡ loose_in dialect (number + 1) next rest
unfolding loose_from
loose-next dialect number state next text rest loose is kept = by dialect.is_lenient refl loose is kept
  where
    by : (lenient : Bool) → dialect.is_lenient ≡ lenient → (loose : Bool) → IsLoose dialect state text loose next rest → (loose && not dialect.is_lenient) ≡ false
        → loose_in dialect number state text ≡ loose_in dialect (number + 1) next rest
    by true e loose is kept = rw e refl
    by false e true is kept = let yes : not dialect.is_lenient ≡ true = ap not e in absurd (cc (yes, kept))
    by false e false is kept = rw (e, is number) refl

-- how many records are left, from the row of this number on
abbrev pub left : Option ℕ → ℕ → Option ℕ
left None number = None
left (Some rows) number = Some (rows + 1 - number)

left_all : (rows : Option ℕ) → left rows 1 ≡ rows
left_all None = refl
left_all (Some n) = ap Some (omega arith)

up_to-nothing : (rows : Option ℕ) → up_to rows [] ≡ []
up_to-nothing None = refl
up_to-nothing (Some n) = take-nil n

up_to-past : (rows : Option ℕ) (number : ℕ) (records : List (List (List ℕ))) → is_past rows number ≡ true → up_to (left rows number) records ≡ []
up_to-past None number records past = absurd (cc past)
up_to-past (Some n) number records past =
    let lt = ltb-true n number past in
    let e : n + 1 - number ≡ 0 = omega arith in
    rw e refl

up_to-next : (rows : Option ℕ) (number : ℕ) (first : List (List ℕ)) (more : List (List (List ℕ))) → is_past rows number ≡ false
    → up_to (left rows number) (first ∷ more) ≡ first ∷ up_to (left rows (number + 1)) more
up_to-next None number first more here = refl
up_to-next (Some n) number first more here =
    let le = ltb-false n number here in
    let e : n + 1 - number ≡ suc (n + 1 - (number + 1)) = omega arith in
    rw e refl

-- the text after the records that are left is that after the next one, if it is left
module _ (dialect : Dialect) (state : State) (text : List ℕ) where
  past_next : (rows : Option ℕ) (number : ℕ) (p : Read) → is_past rows number ≡ false → next_record (config_of dialect) state [] [] text ≡ Some p
      → text_past dialect (left rows number) state text ≡ text_past dialect (left rows (number + 1)) p.1 p.2
  unfolding text_after
  past_next None number p here read = refl
  past_next (Some n) number p here read =
      let le = ltb-false n number here in
      let e : n + 1 - number ≡ suc (n + 1 - (number + 1)) = omega arith in
      rw e (ap (after_read (text_after dialect (n + 1 - (number + 1)))) read)

  past_here : (rows : Option ℕ) (number : ℕ) (p : Read) → is_past rows number ≡ true → next_record (config_of dialect) state [] [] text ≡ Some p
      → text_past dialect (left rows number) state text ≡ text
  unfolding text_after
  past_here None number p past read = absurd (cc past)
  past_here (Some n) number p past read =
      let lt = ltb-true n number past in
      let e : n + 1 - number ≡ 0 = omega arith in
      rw e (ap (text_of text) read)

  after_none : (n : ℕ) → next_record (config_of dialect) state [] [] text ≡ None → text_after dialect n state text ≡ []
  unfolding text_after
  after_none zero none = ap (text_of text) none
  after_none (suc n) none = ap (after_read (text_after dialect n)) none

  past_none : (rows : Option ℕ) (number : ℕ) → next_record (config_of dialect) state [] [] text ≡ None → text_past dialect (left rows number) state text ≡ []
  past_none None number none = refl
  past_none (Some n) number none = after_none (n + 1 - number) none

  past_heading : (rows : Option ℕ) (p : Read) → next_record (config_of dialect) state [] [] text ≡ Some p
      → text_past dialect (with_heading rows) state text ≡ text_past dialect rows p.1 p.2
  unfolding text_after
  past_heading None p read = refl
  past_heading (Some n) p read =
      let e : n + 1 ≡ suc n = omega arith in
      rw e (ap (after_read (text_after dialect n)) read)

-- the rows of the records so far
pub record RowsSoFar (dialect : Dialect) (selection : Selection) (width : ℕ) (loose : Option ℕ) (all : List (List (List ℕ))) (end : List ℕ) (state : State) (text : List ℕ) (number : ℕ)
    (columns : List (List (List ℕ))) : Type 0 where
  pub rows : List (List (List ℕ))
  pub count : length rows + 1 ≡ number
  pub within : length rows ≤ most_rows
  pub into : AreColumnsOf (count_in selection.columns width) rows columns
  pub rest : rows_from selection width loose 1 all ≡ after rows (rows_from selection width loose number (up_to (left selection.rows number) (records_in dialect state text)))
  pub mark : loose ≡ loose_in dialect number state text
  pub end_is : end ≡ text_past dialect (left selection.rows number) state text

columns_none : (width : ℕ) (columns : List (List (List ℕ))) → columns ≡ replicate width [] → AreColumnsOf width [] columns
columns_none width columns e = record {
  count = ap length e ∙ length-replicate width [];
  each = λ column lt. ap (λ (xs : List (List (List ℕ))). get_or xs column []) e ∙ get_or-replicate width column [] [] lt;
}

columns_more : (width : ℕ) (rows : List (List (List ℕ))) (row : List (List ℕ)) (old new : List (List (List ℕ))) → AreColumnsOf width rows old → AddsRow row old new → AreColumnsOf width (rows ++ row ∷ []) new
columns_more width rows row old new are adds = record {
  count = adds.count ∙ are.count;
  each = λ column lt. let size = are.count in
      adds.each column (omega arith) ∙ ap (λ (xs : List (List ℕ)). xs ++ get_or row column [] ∷ []) (are.each column lt)
      ∙ sym (map-append (λ (r : List (List ℕ)). get_or r column []) rows (row ∷ []));
}

pub no_rows : (dialect : Dialect) (selection : Selection) (width : ℕ) (state : State) (text : List ℕ) (columns : List (List (List ℕ))) → columns ≡ replicate (count_in selection.columns width) []
    → RowsSoFar dialect selection width (loose_in dialect 1 state text) (up_to selection.rows (records_in dialect state text)) (text_past dialect selection.rows state text) state text 1 columns
no_rows dialect selection width state text columns e = record {
  rows = [];
  count = refl;
  within = omega arith;
  into = columns_none (count_in selection.columns width) columns e;
  rest = rw (left_all selection.rows) (after-nothing _);
  mark = refl;
  end_is = rw (left_all selection.rows) refl;
}

module _ (dialect : Dialect) (selection : Selection) (width : ℕ) (loose : Option ℕ) (all : List (List (List ℕ))) (end : List ℕ) (state : State) (text : List ℕ) (number : ℕ) (columns : List (List (List ℕ)))
    (fields : List (List ℕ)) (next : After) (far : RowsSoFar dialect selection width loose all end state text number columns) (is : IsReadAs dialect state text fields next) where
  rejected : is_at loose number ≡ (next.is_loose && not dialect.is_lenient)
  rejected = ap (λ (o : Option ℕ). is_at o number) far.mark ∙ at-rejected dialect number state (state_of next.place) text next.text.now next.is_loose is.loose

  come : is_past selection.rows number ≡ false → up_to (left selection.rows number) (records_in dialect state text)
      ≡ fields ∷ up_to (left selection.rows (number + 1)) (records_in dialect (state_of next.place) next.text.now)
  come here = ap (up_to (left selection.rows number)) (records_in-next dialect state text (fields, state_of next.place, next.text.now) is.read) ∙ up_to-next selection.rows number fields _ here

  abbrev right : Bool
  right = has_length selection.is_filled (length fields) width

  pub row_wrong : (fault : Fault) → is_past selection.rows number ≡ false → record_checked (next.is_loose && not dialect.is_lenient) right number ≡ Err fault
      → rows_from selection width loose 1 all ≡ Err fault
  unfolding rows_from
  row_wrong fault here e = far.rest ∙ rw (come here, rejected, e) refl

  pub row_more : (new : List (List (List ℕ))) → is_past selection.rows number ≡ false → record_checked (next.is_loose && not dialect.is_lenient) right number ≡ Ok tt → number ≤ most_rows
      → (next.is_loose && not dialect.is_lenient) ≡ false → AddsRow (row_of selection width fields) columns new
      → RowsSoFar dialect selection width loose all end (state_of next.place) next.text.now (number + 1) new
  unfolding rows_from
  row_more new here e small kept adds = let count = far.count in record {
    rows = far.rows ++ row_of selection width fields ∷ [];
    count = omega (arith, length-append far.rows (row_of selection width fields ∷ []));
    within = omega (arith, length-append far.rows (row_of selection width fields ∷ []));
    into = columns_more (count_in selection.columns width) far.rows (row_of selection width fields) columns new far.into adds;
    rest = far.rest ∙ rw (come here, rejected, e) (after-row far.rows (row_of selection width fields) _);
    mark = far.mark ∙ loose-next dialect number state (state_of next.place) text next.text.now next.is_loose is.loose kept;
    end_is = far.end_is ∙ past_next dialect state text selection.rows number (fields, state_of next.place, next.text.now) here is.read;
  }

  -- the record is past the limit
  pub rows_past : is_past selection.rows number ≡ true → rows_from selection width loose 1 all ≡ Ok far.rows
  unfolding rows_from
  rows_past past = far.rest ∙ rw (up_to-past selection.rows number (records_in dialect state text) past) (ap Ok (append-nil far.rows))

  pub end_past : is_past selection.rows number ≡ true → text ≡ end
  end_past past = sym (far.end_is ∙ past_here dialect state text selection.rows number (fields, state_of next.place, next.text.now) past is.read)

-- no record is left
module _ (dialect : Dialect) (selection : Selection) (width : ℕ) (loose : Option ℕ) (all : List (List (List ℕ))) (end : List ℕ) (state : State) (text : List ℕ) (number : ℕ) (columns : List (List (List ℕ)))
    (far : RowsSoFar dialect selection width loose all end state text number columns) (nothing : HasNoRecord dialect state text) where
  pub rows_end : rows_from selection width loose 1 all ≡ Ok far.rows
  unfolding rows_from
  rows_end = far.rest
      ∙ rw (ap (up_to (left selection.rows number)) (records_in-none dialect state text nothing.none) ∙ up_to-nothing (left selection.rows number)) (ap Ok (append-nil far.rows))

  pub end_none : [] ≡ end
  end_none = sym (far.end_is ∙ past_none dialect state text selection.rows number nothing.none)

-- what a check that a record passes says of it
pub passed : (rejected right : Bool) (number : ℕ) → record_checked rejected right number ≡ Ok tt → (rejected ≡ false) × (number ≤ most_rows)
passed true right number e = absurd (cc e)
passed false false number e = absurd (cc e)
passed false true number e = by (nat_lt most_rows number) refl e
  where
    by : (over : Bool) → nat_lt most_rows number ≡ over → record_checked false true number ≡ Ok tt → (false ≡ false) × (number ≤ most_rows)
    by true o e = absurd (cc (rw o at e))
    by false o e = (refl, ltb-false most_rows number o)

-- the rows of a text by its heading
module _ (dialect : Dialect) (selection : Selection) (text : List ℕ) (fields : List (List ℕ)) (next : After) (is : IsReadAs dialect st.StartRecord (strip_bom text) fields next) where
  heading : records_of dialect text ≡ fields ∷ records_in dialect (state_of next.place) next.text.now
  heading = records_in-next dialect st.StartRecord (strip_bom text) (fields, state_of next.place, next.text.now) is.read

  rejects : is_at (loose_in dialect 0 st.StartRecord (strip_bom text)) 0 ≡ (next.is_loose && not dialect.is_lenient)
  rejects = at-rejected dialect 0 st.StartRecord (state_of next.place) (strip_bom text) next.text.now next.is_loose is.loose

  pub heading_wrong : (fault : Fault) → heading_checked selection.columns (next.is_loose && not dialect.is_lenient) (length fields) ≡ Err fault → rows_of dialect selection text ≡ Err fault
  unfolding rows_after
  heading_wrong fault e = rw (heading, rejects, e) refl

  pub heading_right : heading_checked selection.columns (next.is_loose && not dialect.is_lenient) (length fields) ≡ Ok tt → (next.is_loose && not dialect.is_lenient) ≡ false
      → rows_of dialect selection text
      ≡ (rows_from selection (length fields) (loose_in dialect 1 (state_of next.place) next.text.now) 1 (up_to selection.rows (records_in dialect (state_of next.place) next.text.now))
      >>= λ rows. Ok (field_rows (count_in selection.columns (length fields)) rows))
  unfolding rows_after
  heading_right e kept = rw (heading, rejects, e, loose-next dialect 0 st.StartRecord (state_of next.place) (strip_bom text) next.text.now next.is_loose is.loose kept) refl

  pub heading_end : text_past dialect (with_heading selection.rows) st.StartRecord (strip_bom text) ≡ text_past dialect selection.rows (state_of next.place) next.text.now
  heading_end = past_heading dialect st.StartRecord (strip_bom text) selection.rows (fields, state_of next.place, next.text.now) is.read

pub heading_none : (dialect : Dialect) (selection : Selection) (text : List ℕ) → HasNoRecord dialect st.StartRecord (strip_bom text) → rows_of dialect selection text ≡ Err (at_record NO_HEADING 0)
unfolding rows_after
heading_none dialect selection text nothing = rw (records_in-none dialect st.StartRecord (strip_bom text) nothing.none) refl

pub heading_passed : (places : Places) (rejected : Bool) (width : ℕ) → heading_checked places rejected width ≡ Ok tt
    → (rejected ≡ false) × (1 ≤ count_in places width) × (count_in places width ≤ most_columns)
heading_passed places true width e = absurd (cc e)
heading_passed places false width e = by (nat_le 1 (count_in places width)) refl (nat_le (count_in places width) most_columns) refl e
  where
    by : (a : Bool) → nat_le 1 (count_in places width) ≡ a → (b : Bool) → nat_le (count_in places width) most_columns ≡ b → heading_checked places false width ≡ Ok tt
        → (false ≡ false) × (1 ≤ count_in places width) × (count_in places width ≤ most_columns)
    by false r b s e = absurd (cc (rw r at e))
    by true r false s e = absurd (cc (rw (r, s) at e))
    by true r true s e = (refl, leb-true 1 (count_in places width) r, leb-true (count_in places width) most_columns s)

empty_at : (n place : ℕ) → get_or (replicate {A = List ℕ} n []) place [] ≡ []
empty_at n place = by (nat_lt place n) refl
  where
    by : (b : Bool) → nat_lt place n ≡ b → get_or (replicate {A = List ℕ} n []) place [] ≡ []
    by true h = get_or-replicate n place [] [] (ltb-true place n h)
    by false h = get_or_past (replicate n []) place [] (let le = ltb-false place n h in omega (arith, length-replicate {A = List ℕ} n []))

-- the field of a row in a column is the record's field at the column's place
filled_at : (fields : List (List ℕ)) (n place : ℕ) → get_or (fields ++ replicate n []) place [] ≡ get_or fields place []
filled_at [] n place = empty_at n place
filled_at (f ∷ fields) n zero = refl
filled_at (f ∷ fields) n (suc place) = filled_at fields n place

pub field_at : (selection : Selection) (width column : ℕ) (fields : List (List ℕ)) → column < count_in selection.columns width
    → get_or (row_of selection width fields) column [] ≡ get_or fields (place_at selection.columns column) []
field_at selection width column fields lt = by selection.columns lt
  where
    by : (places : Places) → column < count_in places width → get_or (fields_at places (filled width fields)) column [] ≡ get_or fields (place_at places column) []
    by None lt = filled_at fields (width - length fields) column
    by (Some places) lt = get_or-map (λ place. get_or (filled width fields) place []) places.now column 0 [] lt ∙ filled_at fields (width - length fields) (get_or places.now column 0)
