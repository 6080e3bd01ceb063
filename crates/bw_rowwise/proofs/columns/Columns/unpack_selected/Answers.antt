-- If all rows are unpacked, so are those that are selected.
use Rattle.std.proofs.Common.{arith}
use Rattle.bw_model.specs.Groups.{group_size}
use Rattle.bw_rowwise.proofs.columns.Columns.unpack_selected.Goals as goal

pub returns-then-count-ge-MANY-clause-rows : goal.returns-then-count-ge-MANY-clause-rows
unfolding group_size
returns-then-count-ge-MANY-clause-rows g c = λ k d below lane to one.
    c.unpack.ensures.rows k d below lane (omega (arith, to, (g.met.S.Segment.is_group c.args.segment.now).within_limit))
