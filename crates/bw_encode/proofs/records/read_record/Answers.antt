-- Each turn steps over one byte, and then over those that only join the field at hand.
use Rattle.std.proofs.Common.{rules, ◌≡◌, ◌∙◌, ◌+◌, ◌<◌, sym, subst, ap, [], length, length-drop, arith, true, false}
use Rattle.std.proofs.lemmas.List.{drop_all}
use Rattle.csv.specs.Machine.{ends_at_end}
use Rattle.bw_encode.specs.Place.{state_of, action_of}
use Rattle.bw_encode.proofs.ReadLemmas.{GoesOn, goes-first, byte-next, byte-end, ends-none, ends-last}
use Rattle.bw_encode.proofs.RunLemmas.{run-on}
use Rattle.bw_encode.proofs.records.read_record.Goals as goal

pub bytes-init : goal.bytes-init
bytes-init c = record { on = rw (c.clear.ensures, c.clear-2.ensures.items) (goes-first c.args.dialect (state_of c.args.place) c.args.text.now); within = omega arith }

pub returns-then-is_end : goal.returns-then-is_end
returns-then-is_end c =
    let lt : c.bytes.i < length c.args.text.now = omega (arith, c.bytes-test.true) in
    let both = byte-end c.args.dialect (state_of c.args.place) c.args.text.now (state_of c.bytes.at) (state_of c.step_of-step.result.next) c.bytes.fields c.take_byte.new.fields
    c.bytes.field.items [] c.bytes.i (action_of c.step_of-step.result.action) c.bytes.is_loose c.goes_on_bare.result c.either-is_loose.result lt c.bytes.invariant.on
    c.step_of-step.ensures.next c.step_of-step.ensures.action c.goes_on_bare.ensures c.either-is_loose.ensures c.in_ok-take_byte.ensures.fields (sym c.is_end.ensures ∙ c.if-is_end.true) in
    record { read = rw c.skip_bytes.ensures both.0; loose = rw c.skip_bytes.ensures both.1 }

pub bytes-preserved : goal.bytes-preserved
bytes-preserved c =
    let lt : c.bytes.i < length c.args.text.now = omega (arith, c.bytes-test.true) in
    let on = byte-next c.args.dialect (state_of c.args.place) c.args.text.now (state_of c.bytes.at) (state_of c.step_of-step.result.next) c.bytes.fields c.take_byte.new.fields
    c.bytes.field.items c.take_byte.new.field.items c.bytes.i (action_of c.step_of-step.result.action) c.bytes.is_loose c.goes_on_bare.result c.either-is_loose.result lt c.bytes.invariant.on
    c.step_of-step.ensures.next c.step_of-step.ensures.action c.goes_on_bare.ensures c.either-is_loose.ensures c.in_ok-take_byte.ensures.fields c.in_ok-take_byte.ensures.field (sym c.is_end.ensures ∙ c.if-is_end.false) in
    record {
      on = run-on c.args.dialect (state_of c.args.place) c.args.text.now (state_of c.step_of-step.result.next) c.take_byte.new.fields c.take_byte.new.field.items c.extend_from_slice.new.self.items (c.bytes.i + 1) c.run_length-run.result c.either-is_loose.result
          on (rw c.skip_bytes-rest.ensures at c.run_length-run.ensures.is) (rw c.skip_bytes-rest.ensures at c.in_ok-extend_from_slice.ensures.items);
      within = omega (arith, c.run_length-run.ensures.within, ap length c.skip_bytes-rest.ensures, length-drop (c.bytes.i + 1) c.args.text.now, lt);
    }

pub returns-then-not-ends_at_end : goal.returns-then-not-ends_at_end
returns-then-not-ends_at_end c =
    let no : ends_at_end (state_of c.bytes.at) ≡ false = search rules in
    let on = subst (λ rest. GoesOn c.args.dialect (state_of c.args.place) c.args.text.now (state_of c.bytes.at) c.bytes.fields c.bytes.field.items rest c.bytes.is_loose)
    (drop_all c.bytes.i c.args.text.now (omega arith)) c.bytes.invariant.on in
    record { none = ends-none c.args.dialect (state_of c.args.place) c.args.text.now (state_of c.bytes.at) c.bytes.fields c.bytes.field.items c.bytes.is_loose on no }

pub returns : goal.returns
returns c =
    let yes : ends_at_end (state_of c.bytes.at) ≡ true = search rules in
    let on = subst (λ rest. GoesOn c.args.dialect (state_of c.args.place) c.args.text.now (state_of c.bytes.at) c.bytes.fields c.bytes.field.items rest c.bytes.is_loose)
    (drop_all c.bytes.i c.args.text.now (omega arith)) c.bytes.invariant.on in
    let both = ends-last c.args.dialect (state_of c.args.place) c.args.text.now (state_of c.bytes.at) c.bytes.fields c.bytes.field.items c.bytes.is_loose c.is_open.result on yes c.is_open.ensures in
    rw (c.in_ok-push.ensures, c.deref.ensures.value, c.either.ensures) (record { read = both.0; loose = both.1 })
