-- One column more has no block.
use Rattle.std.proofs.Common.{◌∙◌, sym, ap, ap₂, List, ℕ, ◌++◌, ◌∷◌, [], map, arith}
use Rattle.std.proofs.lemmas.List.{map-append}
use Rattle.std.proofs.lemmas.List.FromFn.{map-range_with_len_more}
use Rattle.bw_segment.specs.declared.column_blocks.ColumnBlocks.{ColumnBlocks}
use Rattle.bw_segment.specs.Packing.{block_size}
use Rattle.bw_segment.proofs.ColumnBlockLemmas.{no_bytes, none_kept}
use Rattle.bw_segment.proofs.numbered_blocks.no_blocks.Goals as goal

pub loop-col-preserved : goal.loop-col-preserved
loop-col-preserved g c =
    let columns = c.args.placement.now.schema.columns.items in
    let size = block_size g.L.CodeLayout.packing columns in
    let old = c.loop-col.kept.items in
    let col = c.loop-col.col in
    let new = c.new.result in
    let items = c.in_ok-push.ensures.items in
    record {
      sizes =
          ap (map (λ (blocks : ColumnBlocks). blocks.size)) items ∙ map-append (λ (blocks : ColumnBlocks). blocks.size) old (new ∷ [])
          ∙ ap₂ (λ (l : List ℕ) (n : ℕ). l ++ n ∷ []) c.loop-col.invariant.sizes (c.new.ensures.size ∙ c.block_size-size.ensures.size) ∙ sym (map-range_with_len_more size 0 col col (omega arith));
      strides =
          ap (map (λ (blocks : ColumnBlocks). blocks.stride)) items ∙ map-append (λ (blocks : ColumnBlocks). blocks.stride) old (new ∷ [])
          ∙ ap₂ (λ (l : List ℕ) (n : ℕ). l ++ n ∷ []) c.loop-col.invariant.strides (c.new.ensures.stride ∙ c.block_size-size.ensures.size) ∙ sym (map-range_with_len_more size 0 col col (omega arith));
      none =
          ap (map (λ (blocks : ColumnBlocks). blocks.bytes.items)) items ∙ map-append (λ (blocks : ColumnBlocks). blocks.bytes.items) old (new ∷ [])
          ∙ ap₂ (λ (l : List (List ℕ)) (bytes : List ℕ). l ++ bytes ∷ []) c.loop-col.invariant.none c.new.ensures.bytes ∙ sym (map-range_with_len_more no_bytes 0 col col (omega arith));
    }

pub returns-clause-keep : goal.returns-clause-keep
returns-clause-keep g c =
    let columns = c.args.placement.now.schema.columns.items in
    let size = block_size g.L.CodeLayout.packing columns in
    let col = c.loop-col.col in
    none_kept g.L.CodeLayout.packing columns c.loop-col.kept.items col (omega (arith, c.len-col-end.ensures)) c.loop-col.invariant.sizes c.loop-col.invariant.strides c.loop-col.invariant.none
