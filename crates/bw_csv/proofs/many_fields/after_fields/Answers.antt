-- Each turn continues by one byte, and a comma ends one field more.
use Rattle.std.proofs.Common.{◌≡◌, ◌∙◌, ◌+◌, false, true, arith, sym, subst, get_or}
use Rattle.csv.specs.Machine.{is_end, step}
use Rattle.csv.specs.Reading.{default_config}
use Rattle.bw_csv.specs.Fields.{HasMoreFields, is_field_closed}
use Rattle.bw_csv.specs.Plain.{state_of}
use Rattle.bw_csv.proofs.CutLemmas.{begins_field, begins_next, begins_nothing, has_more}
use Rattle.bw_csv.proofs.many_fields.after_fields.Goals as goal
use Rattle.bw_csv.proofs.many_fields.after_fields.Goals.{then-closes_field+else-closed-count}
use Rattle.bw_csv.proofs.many_fields.after_fields.Goals.{else-closes_field}

pub loop-i-init : goal.loop-i-init
loop-i-init c = begins_nothing c.args.text.now

pub overflow_add-closed : goal.overflow_add-closed
overflow_add-closed c = let few = c.loop-i.invariant.within_limit in omega arith

pub returns-then-closed-count : goal.returns-then-closed-count
returns-then-closed-count c =
    let text = c.args.text.now in
    let i = c.loop-i.i in
    let closes : is_field_closed (step default_config (state_of c.loop-i.inside) (get_or text i 0)).1 ≡ true = sym c.closes_field.ensures ∙ c.if-closes_field.true in
    subst (λ count. HasMoreFields count text (i + 1)) c.if-closed-count.true (has_more text i c.loop-i.inside c.loop-i.closed c.loop-i.invariant c.loop-i-test.true closes)

pub loop-i-preserved : goal.loop-i-preserved
loop-i-preserved c =
    let text = c.args.text.now in
    let i = c.loop-i.i in
    let goes_on : is_end (step default_config (state_of c.loop-i.inside) (get_or text i 0)).1 ≡ false = sym c.ends_record.ensures.end ∙ c.if-ends_record.false in
    elim c.if-closes_field.branch [
      | then-closes_field+else-closed-count w ↦
          rw w.closed-is (begins_field text i c.loop-i.inside c.inside_after-inside.result c.loop-i.closed c.loop-i.invariant c.loop-i-test.true (sym c.closes_field.ensures ∙ w.if-closes_field.true) c.inside_after-inside.ensures)
      | else-closes_field w ↦
          rw w.closed-is (begins_next text i c.loop-i.inside c.inside_after-inside.result c.loop-i.closed c.loop-i.invariant c.loop-i-test.true goes_on (sym c.closes_field.ensures ∙ w.if-closes_field.false) c.inside_after-inside.ensures)
    ]
