use Rattle.std.proofs.Common.{arith}
use Rattle.bw_file.specs.Blocks.{form_of}
use Rattle.bw_file.specs.declared.layout.Layout.TheVariants.{Planes, Slices}
use Rattle.bw_file.proofs.SegmentLemmas.{segment_small}
use Rattle.bw_file.proofs.segments.segment_size.Goals as goal

pub returns-in-Planes-clause-small : goal.returns-in-Planes-clause-small
unfolding form_of
returns-in-Planes-clause-small c = omega (arith, segment_small Planes c.args.placement.now.schema, c.segment_size.ensures)

pub returns-in-Slices-clause-small : goal.returns-in-Slices-clause-small
unfolding form_of
returns-in-Slices-clause-small c = omega (arith, segment_small Slices c.args.placement.now.schema, c.segment_size-in-Slices.ensures)
