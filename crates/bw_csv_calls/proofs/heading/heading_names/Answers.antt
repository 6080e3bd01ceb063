-- Each turn has one name more.
use Rattle.std.proofs.Common.{◌∙◌, sym, ap, ◌<◌, length, arith, refl, Err, length-append, List, ℕ, not}
use Rattle.std.proofs.Common.{true, false}
use Rattle.std.proofs.lemmas.Bool.{le-leb, lt-leb}
use Rattle.bw_model.proofs.SchemaLemmas.{are_apart-push}
use Rattle.bw_csv.specs.Records.{fields_in}
use Rattle.bw_csv_calls.proofs.HeadingLemmas.{fault_first, name_step, names_end, none_named}
use Rattle.bw_csv_calls.proofs.HeadingLemmas.{nothing_apart, some_named}
use Rattle.bw_csv_calls.proofs.heading.heading_names.Goals as goal

pub loop-i-init : goal.loop-i-init
loop-i-init c = rw c.new-names.ensures.items (record { rest = refl; within_limit = omega arith; apart = nothing_apart })

pub returns-then-len-ge-MAX_COLUMNS-clause-names :
    goal.returns-then-len-ge-MAX_COLUMNS-clause-names
returns-then-len-ge-MAX_COLUMNS-clause-names c = λ _.
    let fields = fields_in c.args.records.now in
    let there : c.loop-i.i < length fields = omega (arith, c.field_count-i-end.ensures) in
    fault_first fields _ c.loop-i.i _ c.loop-i.invariant.rest (name_step _ fields c.loop-i.i c.field-name.result.now true _ _ there c.field-name.ensures (le-leb 64 (length c.loop-i.names.items) (omega (arith, c.len.ensures))) refl refl ∙ ap Err (sym c.at_record.ensures))

pub returns-then-not-is_name-clause-names : goal.returns-then-not-is_name-clause-names
returns-then-not-is_name-clause-names c = λ _.
    let fields = fields_in c.args.records.now in
    let there : c.loop-i.i < length fields = omega (arith, c.field_count-i-end.ensures) in
    fault_first fields _ c.loop-i.i _ c.loop-i.invariant.rest
    (name_step _ fields c.loop-i.i c.field-name.result.now false true _ there c.field-name.ensures (lt-leb 64 (length c.loop-i.names.items) (omega (arith, c.len.ensures))) (ap not (sym c.is_name.ensures ∙ c.if-not-is_name.true)) refl ∙ ap Err (sym c.at_record-then-not-is_name.ensures))

pub returns-then-is_among-clause-names : goal.returns-then-is_among-clause-names
returns-then-is_among-clause-names c = λ _.
    let fields = fields_in c.args.records.now in
    let there : c.loop-i.i < length fields = omega (arith, c.field_count-i-end.ensures) in
    let twice = rw c.deref.ensures.value at c.is_among.ensures in
    fault_first fields _ c.loop-i.i _ c.loop-i.invariant.rest
    (name_step _ fields c.loop-i.i c.field-name.result.now false false true there c.field-name.ensures (lt-leb 64 (length c.loop-i.names.items) (omega (arith, c.len.ensures))) (ap not (sym c.is_name.ensures ∙ c.if-not-is_name.false)) (sym twice ∙ c.if-is_among.true) ∙ ap Err (sym c.at_record-then-is_among.ensures))

pub loop-i-preserved : goal.loop-i-preserved
loop-i-preserved c =
    let fields = fields_in c.args.records.now in
    let there : c.loop-i.i < length fields = omega (arith, c.field_count-i-end.ensures) in
    let new = sym (rw c.deref.ensures.value at c.is_among.ensures) ∙ c.if-is_among.false in
    let items = rw c.in_ok-new.ensures at c.in_ok-push.ensures.items in
    rw items (record {
      rest = c.loop-i.invariant.rest ∙ name_step _ fields c.loop-i.i c.field-name.result.now false false false there c.field-name.ensures (lt-leb 64 (length c.loop-i.names.items) (omega (arith, c.len.ensures))) (ap not (sym c.is_name.ensures ∙ c.if-not-is_name.false)) new;
      within_limit = omega (arith, length-append {A = List ℕ}, c.len.ensures);
      apart = are_apart-push c.loop-i.names.items c.field-name.result.now c.loop-i.invariant.apart new;
    })

pub returns-then-is_empty-clause-names : goal.returns-then-is_empty-clause-names
returns-then-is_empty-clause-names c = λ _.
    names_end (fields_in c.args.records.now) c.loop-i.names.items c.loop-i.i (omega (arith, c.field_count-i-end.ensures)) c.loop-i.invariant.rest
    ∙ none_named c.loop-i.names.items _ (omega arith) (sym c.is_empty.ensures ∙ c.if-is_empty.true) ∙ ap Err (sym c.at_record-then-is_empty.ensures)

pub returns-clause-names : goal.returns-clause-names
returns-clause-names c =
    names_end (fields_in c.args.records.now) c.loop-i.names.items c.loop-i.i (omega (arith, c.field_count-i-end.ensures)) c.loop-i.invariant.rest
    ∙ (some_named c.loop-i.names.items _ (omega arith) (sym c.is_empty.ensures ∙ c.if-is_empty.false)).0
