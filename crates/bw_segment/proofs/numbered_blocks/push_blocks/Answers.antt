-- Each column gets its block.
use Rattle.std.proofs.Common.{◌∙◌, ap, List, ℕ, ◌++◌, length, get_or, arith}
use Rattle.bw_io.specs.Shared.{bytes_in}
use Rattle.bw_segment.proofs.ColumnBlockLemmas.{all_more, keep_more, last_segment, none_more}
use Rattle.bw_segment.proofs.ColumnBlockLemmas.{one_more, other_segment}
use Rattle.bw_segment.proofs.PackedLemmas.{length-block}
use Rattle.bw_segment.proofs.numbered_blocks.push_blocks.Goals as goal

pub loop-col-init : goal.loop-col-init
loop-col-init g c = none_more c.args.kept.now _

pub loop-col-preserved : goal.loop-col-preserved
loop-col-preserved g c =
    let so_far = c.loop-col.invariant in
    let pushed = c.in_ok-push.ensures in
    one_more _ _ _ c.loop-col.col c.push.new.self c.index-kept-col.result so_far (omega arith) pushed.size pushed.stride
    (pushed.bytes ∙ ap (λ (l : List ℕ). (get_or c.loop-col.kept c.loop-col.col c.index-kept-col.result).bytes.items ++ l) c.block.ensures.block)

pub returns-clause-keep : goal.returns-clause-keep
returns-clause-keep g c = λ count keep.
    let segment = c.args.segment.now in
    let more = all_more _ _ _ _ (length segment.placement.value.schema.columns.items) (omega (arith, c.requires)) c.loop-col.invariant in
    keep_more g.L.CodeLayout.packing segment.placement.value.schema.columns.items count _ _ (bytes_in segment.bytes) keep segment.packed.sound.size (length-block segment.packed) more

pub returns-clause-last : goal.returns-clause-last
returns-clause-last g c = λ count keep.
    let segment = c.args.segment.now in
    let more = all_more _ _ _ _ (length segment.placement.value.schema.columns.items) (omega (arith, c.requires)) c.loop-col.invariant in
    last_segment g.L.CodeLayout.packing segment.placement.value.schema.columns.items count _ _ (bytes_in segment.bytes) keep segment.packed.sound.size (length-block segment.packed) more

pub returns-clause-others : goal.returns-clause-others
returns-clause-others g c = λ count number keep there.
    let segment = c.args.segment.now in
    let more = all_more _ _ _ _ (length segment.placement.value.schema.columns.items) (omega (arith, c.requires)) c.loop-col.invariant in
    other_segment g.L.CodeLayout.packing segment.placement.value.schema.columns.items count _ _ (bytes_in segment.bytes) keep segment.packed.sound.size (length-block segment.packed) more
    number there
