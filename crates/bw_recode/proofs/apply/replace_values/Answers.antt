-- Each turn appends one more value.
use Rattle.std.proofs.Common.{◌≡◌, ◌<◌, ◌∙◌, ◌++◌, ◌∷◌, [], List, length, get_or, take, None}
use Rattle.std.proofs.Common.{sym, ap, arith}
use Rattle.std.proofs.lemmas.List.{take_more, take_all, length-map}
use Rattle.std.specs.Option.{option_map}
use Rattle.bw_model.specs.Row.{Value}
use Rattle.bw_file.proofs.TableLemmas.{admitted_in}
use Rattle.bw_segment.proofs.CodeLemmas.{length_admitted}
use Rattle.bw_recode.specs.Recode.{replaced_row, replacements_in}
use Rattle.bw_recode.proofs.ReplacingLemmas.{length-replaced_row, value_replaced, stored_at, entry_read}
use Rattle.bw_recode.proofs.apply.replace_values.Goals as goal

pub loop-col-preserved : goal.loop-col-preserved
loop-col-preserved g c =
    let columns = (g.S.Segment.meaning c.args.segment.now).columns in
    let stored = c.args.replacements.now in
    let row = get_or (g.S.Segment.meaning c.args.segment.now).rows c.args.i [] in
    let col = c.loop-col.col in
    let made = replaced_row columns (replacements_in stored) row in
    let wide = length_admitted columns row (admitted_in columns (g.S.Segment.meaning c.args.segment.now).rows c.args.i (g.met.S.Segment.is_group c.args.segment.now).admitted c.requires.row) in
    let same : length (replacements_in stored) ≡ length columns = length-map stored (λ r. option_map (λ values. values.items) r) ∙ c.requires.columns in
    let lt : col < length columns = omega (arith, c.loop-col-test.true, c.requires.columns) in
    let size : length made ≡ length columns = length-replaced_row columns (replacements_in stored) row same wide in
    let read = entry_read stored col c.index-replacements-col.result None c.loop-col-test.true c.index-replacements-col.is in
    let entry : get_or made col None ≡ c.replace_value.result =
    value_replaced columns (replacements_in stored) row col same wide lt
    ∙ rw (stored_at stored col, read, ← c.value-value.ensures, ← c.schema-schema.ensures.columns) (sym c.replace_value.ensures) in
    c.in_ok-push.ensures.items ∙ ap (λ (values : List Value). values ++ c.replace_value.result ∷ []) c.loop-col.invariant
    ∙ ap (λ (value : Value). take col made ++ value ∷ []) (sym entry) ∙ sym (take_more made col None (omega (arith, lt, size)))

pub returns-clause-row : goal.returns-clause-row
returns-clause-row g c =
    let columns = (g.S.Segment.meaning c.args.segment.now).columns in
    let stored = c.args.replacements.now in
    let row = get_or (g.S.Segment.meaning c.args.segment.now).rows c.args.i [] in
    let made = replaced_row columns (replacements_in stored) row in
    let wide = length_admitted columns row (admitted_in columns (g.S.Segment.meaning c.args.segment.now).rows c.args.i (g.met.S.Segment.is_group c.args.segment.now).admitted c.requires.row) in
    let same : length (replacements_in stored) ≡ length columns = length-map stored (λ r. option_map (λ values. values.items) r) ∙ c.requires.columns in
    let size : length made ≡ length columns = length-replaced_row columns (replacements_in stored) row same wide in
    c.loop-col.invariant ∙ take_all c.loop-col.col made (omega (arith, size, c.requires.columns, c.loop-col-test.false))
