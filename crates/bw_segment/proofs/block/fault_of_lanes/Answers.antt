use Rattle.std.proofs.Common.{◌≡◌, ◌∙◌, refl, sym, ap, ◌*◌, ◌||◌, not, length, get_or, ℕ, List}
use Rattle.std.proofs.Common.{true, false, add-one, arith}
use Rattle.std.specs.List.{list_all}
use lib.Lanes.{zip2}
use Rattle.bw_lanes.specs.Lanes.{lanes_of_words}
use Rattle.bw_lanes.proofs.WordLemmas.{length-lanes_of_words}
use Rattle.bw_segment.specs.BlockFault.{first_fault, or_else}
use Rattle.bw_segment.proofs.FaultLemmas.{of_rows, fault_in_padding, fault_in_rows, fault_at}
use Rattle.bw_segment.proofs.FaultLemmas.{rows_fine, row_is}
use Rattle.bw_segment.proofs.block.fault_of_lanes.Goals as goal

lanes_long : (words : List ℕ) → length words ≡ 8 → length (lanes_of_words words) ≡ 512
lanes_long words eight = length-lanes_of_words words ∙ ap (λ k. 64 * k) eight

pub returns-then-not-is_padding_clear : goal.returns-then-not-is_padding_clear
returns-then-not-is_padding_clear c = λ span codes long tells is_above.
    let found = c.is_padding_clear.ensures.set c.if-not-is_padding_clear.true in
    sym (fault_in_padding span c.args.rows _ _ _ codes c.requires (lanes_long _ c.told-nulls) (lanes_long _ c.told-used) long tells is_above found.0 found.1 found.2 found.3)

pub returns-then-is_zero : goal.returns-then-is_zero
returns-then-is_zero c = λ span codes long tells is_above.
    let clear = c.is_padding_clear.ensures.clear c.if-not-is_padding_clear.false in
    let either = c.or.ensures ∙ ap (λ l. zip2 (λ x y. x || y) l (lanes_of_words c.args.above.now)) c.and-with_code.ensures in
    let all = sym (c.is_zero.ensures ∙ ap (list_all not) either) ∙ c.if-is_zero.true in
    sym (fault_in_rows span c.args.rows _ _ _ codes c.requires (lanes_long _ c.told-nulls) (lanes_long _ c.told-used) long tells is_above clear
    ∙ rows_fine span c.args.rows _ _ _ codes c.requires (lanes_long _ c.told-nulls) (lanes_long _ c.told-used) long tells is_above all)

pub returns-then-lane : goal.returns-then-lane
returns-then-lane c = λ span codes long tells is_above.
    let clear = c.is_padding_clear.ensures.clear c.if-not-is_padding_clear.false in
    let set = sym (c.lane.ensures ∙ ap (λ l. get_or l c.loop-row.row false) c.and-with_code.ensures) ∙ c.if-lane.true in
    sym (fault_at span c.args.rows _ _ _ codes c.requires (lanes_long _ c.told-nulls) (lanes_long _ c.told-used) long tells is_above 307 c.loop-row.row true _ clear
    (c.loop-row.invariant span codes long tells is_above) set refl refl (omega arith))

pub returns-then-lane-2 : goal.returns-then-lane-2
returns-then-lane-2 c = λ span codes long tells is_above.
    let clear = c.is_padding_clear.ensures.clear c.if-not-is_padding_clear.false in
    let unset = sym (c.lane.ensures ∙ ap (λ l. get_or l c.loop-row.row false) c.and-with_code.ensures) ∙ c.if-lane.false in
    let set = sym c.lane-in-loop-row.ensures ∙ c.if-lane-2.true in
    sym (fault_at span c.args.rows _ _ _ codes c.requires (lanes_long _ c.told-nulls) (lanes_long _ c.told-used) long tells is_above 306 c.loop-row.row false true clear
    (c.loop-row.invariant span codes long tells is_above) unset set refl (omega arith))

pub loop-row-preserved : goal.loop-row-preserved
loop-row-preserved c = λ span codes long tells is_above.
    let faults = of_rows span c.args.rows (lanes_of_words c.args.nulls.now) codes in
    let unset = sym (c.lane.ensures ∙ ap (λ l. get_or l c.loop-row.row false) c.and-with_code.ensures) ∙ c.if-lane.false in
    let within = sym c.lane-in-loop-row.ensures ∙ c.if-lane-2.false in
    ap (first_fault faults) (add-one c.loop-row.row) ∙ ap (λ f. or_else f (faults c.loop-row.row)) (c.loop-row.invariant span codes long tells is_above)
    ∙ row_is span c.args.rows _ _ _ codes c.requires (lanes_long _ c.told-nulls) (lanes_long _ c.told-used) long tells is_above c.loop-row.row (omega (arith, c.requires)) false false unset within

pub returns : goal.returns
returns c = λ span codes long tells is_above.
    let clear = c.is_padding_clear.ensures.clear c.if-not-is_padding_clear.false in
    sym (fault_in_rows span c.args.rows _ _ _ codes c.requires (lanes_long _ c.told-nulls) (lanes_long _ c.told-used) long tells is_above clear
    ∙ ap (first_fault (of_rows span c.args.rows (lanes_of_words c.args.nulls.now) codes)) {x = c.args.rows} {y = c.loop-row.row} (omega arith) ∙ c.loop-row.invariant span codes long tells is_above)
