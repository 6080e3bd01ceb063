-- The codes of the rows that aren't null are between the bounds, or there are none.
use Rattle.std.proofs.Common.{◌≡◌, ◌∙◌, refl, ap, sym, Bool, ℤ, List, Some, None, true, false, get_or, not, arith}
use Rattle.std.proofs.lemmas.List.{get_or-map}
use Rattle.bw_lanes.specs.Lanes.{lanes_of_words}
use Rattle.bw_model.specs.declared.column.Column.{Column}
use Rattle.bw_model.specs.Code.{code_at, code_of}
use Rattle.bw_model.specs.Groups.{group_size}
use Rattle.bw_ranges.specs.declared.column_range.ColumnRange.{ColumnRange}
use Rattle.bw_segment.specs.Selected.{codes_in}
use Rattle.bw_memory.proofs.RangeLemmas.{IsBetween, codes_between, no_codes, range_of_segment}
use Rattle.bw_memory.proofs.column_ranges.segment_range.Goals as goal

pub mask-requires : goal.mask-requires
unfolding group_size
mask-requires g c = omega (arith, c.rows_in.ensures.bounds)

pub returns-in_default : goal.returns-in_default
returns-in_default g c =
    let meaning = g.S.Segment.meaning c.args.segment.now in
    range_of_segment meaning c.args.col (g.met.S.Segment.is_group c.args.segment.now) c.requires c.only_null.result (λ _. ⊥) (λ n code e none. absurd none) c.rows_in.result _ c.rows_in.ensures.count
    _ _ _ _ c.mask.ensures c.nulls-nulls.ensures c.not.ensures c.and-present.ensures (no_codes (codes_in meaning c.args.col (lanes_of_words c.and-present.result)) (λ _. ⊥) (sym c.in_default.is ∙ c.min_code.ensures.least))
    (λ un. let bad : true ≡ false = sym (ap (λ (r : ColumnRange). r.has_nulls) c.only_null.ensures) ∙ un in absurd (cc bad))

pub returns : goal.returns
returns g c =
    let meaning = g.S.Segment.meaning c.args.segment.now in
    let col = c.args.col in
    let least = c.in-Some.least in
    let greatest = c.in-Some-max_code.greatest in
    let column = c.index-column.result.now in
    let is : column ≡ get_or meaning.columns col column = c.index-column.ensures ∙ ap (λ (l : List Column). get_or l col column) c.schema.ensures.columns in
    let code : (n : ℤ) → code_at meaning.columns col (Some n) ≡ code_of column (Some n) = λ n. get_or-map (λ (c : Column). code_of c (Some n)) meaning.columns col column None c.requires ∙ ap (λ (c : Column). code_of c (Some n)) (sym is) in
    range_of_segment meaning col (g.met.S.Segment.is_group c.args.segment.now) c.requires c.of_codes.result (IsBetween least greatest)
    (λ n stored e between. c.of_codes.ensures.numbers n stored (sym (code n) ∙ e) between.0 between.1) c.rows_in.result _ c.rows_in.ensures.count
    _ _ _ _ c.mask.ensures c.nulls-nulls.ensures c.not.ensures c.and-present.ensures
    (codes_between (codes_in meaning col (lanes_of_words c.and-present.result)) least greatest c.in-Some.ensures.least c.in-Some-max_code.ensures.greatest)
    (λ un. sym c.is_zero.ensures ∙ zero c.is_zero.result (sym c.of_codes.ensures.nulls ∙ un))
  where
    zero : (b : Bool) → not b ≡ false → b ≡ true
    zero true e = refl
    zero false e = absurd (cc e)
