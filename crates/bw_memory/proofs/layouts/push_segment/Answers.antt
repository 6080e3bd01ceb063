-- The blocks of a segment in either layout.
use Rattle.bw_file.specs.AnySegment.{any_meaning}
use Rattle.bw_file.specs.Blocks.{form_of}
use Rattle.bw_memory.proofs.StoredSegmentLemmas.{are_of, on_ok_three}
use Rattle.bw_memory.proofs.layouts.push_segment.Goals as goal

pub returns-in-Planes-with_segment-clause-added : goal.returns-in-Planes-with_segment-clause-added
unfolding any_meaning form_of
returns-in-Planes-with_segment-clause-added c =
    let pushed = c.push_blocks.ensures in
    rw c.in-Planes-with_segment.is (on_ok_three c.push_blocks.result (λ keep last others. (_, are_of _, record { keep = keep; last = last; others = others })) pushed.keep pushed.last pushed.others)

pub returns-in-Slices-with_segment-clause-added : goal.returns-in-Slices-with_segment-clause-added
unfolding any_meaning form_of
returns-in-Slices-with_segment-clause-added c =
    let pushed = c.push_blocks-2.ensures in
    rw c.in-Slices-with_segment.is (on_ok_three c.push_blocks-2.result (λ keep last others. (_, are_of _, record { keep = keep; last = last; others = others })) pushed.keep pushed.last pushed.others)
