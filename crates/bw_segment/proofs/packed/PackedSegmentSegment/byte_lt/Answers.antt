use Rattle.std.proofs.Common.{◌∙◌, ltb}
use Rattle.bw_segment.proofs.PackedLemmas.{byte_tested}
use Rattle.bw_segment.proofs.packed.PackedSegmentSegment.byte_lt.Goals as goal

pub returns : goal.returns
returns g c = c.byte_lt.ensures ∙ byte_tested c.args.self.now.packed c.args.col c.args.slice (λ byte. ltb byte c.args.c) _ c.requires.column c.requires.slice c.column_codes-width.ensures.lanes
