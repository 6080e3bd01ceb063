use Rattle.std.proofs.Common.{All, ◌∙◌, sym, ap, ap₂, subst, ◌≤◌, ◌+◌, ◌*◌, ◌++◌, ◌∷◌, [], map}
use Rattle.std.proofs.Common.{length, arith}
use Rattle.std.specs.List.{range_with_len}
use Rattle.std.proofs.lemmas.List.Elements.{All-push}
use Rattle.std.proofs.lemmas.List.FromFn.{map-range_with_len_more}
use Rattle.bw_model.specs.Code.{width_at}
use Rattle.bw_segment.specs.Packing.{bytes_before}
use Rattle.bw_segment.proofs.PlacementLemmas.{nullable_read, before_next, one_at_most}
use Rattle.bw_segment.proofs.placement.Placement.of.Goals as goal

pub loop-col-preserved : goal.loop-col-preserved
loop-col-preserved g c =
    let columns = c.in_ok-copied.copied.columns.items in
    let col = c.loop-col.col in
    let column = c.index.result.now in
    let so_far = c.loop-col.invariant in
    let null = nullable_read columns col column (omega arith) c.index.ensures in
    let next = before_next g.L.CodeLayout.packing columns col c.width-width.result c.size.result column.nullable null c.width-width.ensures.width c.size.ensures.size in
    record {
      starts = c.in_ok-push.ensures.items ∙ ap₂ (λ l x. l ++ x ∷ []) so_far.starts so_far.end ∙ sym (map-range_with_len_more (bytes_before g.L.CodeLayout.packing columns) 0 col col (omega arith));
      end = ap₂ (λ n null. n + (64 * null + c.size.result)) so_far.end c.from.ensures ∙ sym next;
      small = omega (arith, so_far.small, c.from.ensures, one_at_most column.nullable, c.size.ensures.bound);
      wide = c.in_ok-push-2.ensures.items ∙ ap₂ (λ l x. l ++ x ∷ []) so_far.wide c.width-width.ensures.width ∙ sym (map-range_with_len_more (width_at columns) 0 col col (omega arith));
      bounded = subst (All (λ width. (1 ≤ width) × (width ≤ 63))) (sym c.in_ok-push-2.ensures.items) (All-push (λ width. (1 ≤ width) × (width ≤ 63)) _ c.width-width.result so_far.bounded c.width-width.ensures.bounds);
    }

pub returns-clause-placed : goal.returns-clause-placed
returns-clause-placed g c =
    let columns = c.in_ok-copied.copied.columns.items in
    let so_far = c.loop-col.invariant in
    let before = bytes_before g.L.CodeLayout.packing columns in
    record {
      starts = c.in_ok-push-3.ensures.items ∙ ap₂ (λ l x. l ++ x ∷ []) so_far.starts so_far.end ∙ sym (map-range_with_len_more before 0 c.loop-col.col c.loop-col.col (omega arith))
          ∙ ap (λ n. map before (range_with_len 0 (n + 1))) {x = c.loop-col.col} {y = length columns} (omega arith);
    }
