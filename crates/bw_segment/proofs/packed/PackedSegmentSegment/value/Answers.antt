use Rattle.std.proofs.Common.{◌≡◌, ◌∙◌, sym, ap, ap₂, ℕ, w64, FitsSigned, Some, get_or, false}
use Rattle.std.proofs.Common.{rules, arith}
use Rattle.std.proofs.lemmas.Int.{to_z-of_z}
use Rattle.bw_model.specs.Code.{span_at, value_at}
use Rattle.bw_segment.specs.Meaning.{code_lanes}
use Rattle.bw_segment.specs.Packing.{meaning_spelled, value_held}
use Rattle.bw_segment.specs.declared.placement.Placement.{Placement}
use Rattle.bw_segment.proofs.PackedLemmas.{code_within, row_held}
use Rattle.bw_segment.proofs.packed.PackedSegmentSegment.value.Goals as goal

pub value-requires-clause-code : goal.value-requires-clause-code
value-requires-clause-code g c =
    let code = c.code.ensures ∙ ap (λ l. get_or l c.args.row 0) c.column_codes-width.ensures.lanes in
    let span = ap (λ (placement : Placement). span_at placement.schema.columns.items c.args.col) c.deref.ensures in
    omega (arith, code, span, code_within c.args.self.now.packed c.args.col c.args.row c.requires.column c.requires.row)

pub returns-then-lane : goal.returns-then-lane
returns-then-lane g c =
    let segment = c.args.self.now in
    let columns = segment.placement.value.schema.columns.items in
    let code = get_or (code_lanes (meaning_spelled g.L.CodeLayout.packing segment.placement.value.schema segment.rows (g.B.Blocks.bytes segment.bytes)) c.args.col) c.args.row 0 in
    let null = sym c.if-lane.true ∙ c.lane.ensures ∙ ap (λ l. get_or l c.args.row false) c.nulls.ensures in
    ap (λ b. value_held columns c.args.col b code) null ∙ row_held segment.packed c.args.col c.args.row c.requires.column c.requires.row

pub returns : goal.returns
returns g c =
    let segment = c.args.self.now in
    let columns = segment.placement.value.schema.columns.items in
    let here = get_or (code_lanes (meaning_spelled g.L.CodeLayout.packing segment.placement.value.schema segment.rows (g.B.Blocks.bytes segment.bytes)) c.args.col) c.args.row 0 in
    let null = sym c.if-lane.false ∙ c.lane.ensures ∙ ap (λ l. get_or l c.args.row false) c.nulls.ensures in
    let code = c.code.ensures ∙ ap (λ l. get_or l c.args.row 0) c.column_codes-width.ensures.lanes in
    let value : c.value.result ≡ value_at columns c.args.col here = c.value.ensures ∙ ap₂ (λ (placement : Placement) (n : ℕ). value_at placement.schema.columns.items c.args.col n) c.deref.ensures code in
    let fits : FitsSigned w64 c.value.result = search rules in
    ap Some (to_z-of_z w64 c.value.result fits ∙ value) ∙ ap (λ b. value_held columns c.args.col b here) null ∙ row_held segment.packed c.args.col c.args.row c.requires.column c.requires.row
