-- The next segments are the file's.
use Rattle.std.proofs.Common.{◌+◌, arith}
use Rattle.bw_model.specs.Groups.{group_size}
use Rattle.bw_memory.proofs.ColumnarLemmas.{few_segments}
use Rattle.bw_memory.proofs.WindowLemmas.{at_most, has_segment, is_part}
use Rattle.bw_memory.proofs.segment_window.SegmentWindow.pass.Goals as goal

pub overflow_add-first : goal.overflow_add-first
overflow_add-first c = omega (arith, c.args.self.now.early, few_segments c.args.self.now.table)

pub overflow_mul-first : goal.overflow_mul-first
unfolding group_size
overflow_mul-first c =
    let whole = c.args.columnar.now.table in
    omega (arith, whole.kept.nonempty (c.args.self.now.first + c.args.self.now.table.segments) c.requires.more, whole.within_limit)

pub overflow_sub-whole-2 : goal.overflow_sub-whole-2
unfolding group_size
overflow_sub-whole-2 c =
    let whole = c.args.columnar.now.table in
    omega (arith, whole.kept.nonempty (c.args.self.now.first + c.args.self.now.table.segments) c.requires.more, whole.within_limit)

pub overflow_mul-most : goal.overflow_mul-most
overflow_mul-most c = omega (arith, few_segments c.args.columnar.now.table, c.min-most.ensures)

pub invariant_of-self : goal.invariant_of-self
invariant_of-self c = record { some = c.args.self.now.some; early = omega (arith, c.requires.more, few_segments c.args.columnar.now.table) }

pub returns-then-rows-self-clause-some : goal.returns-then-rows-self-clause-some
unfolding group_size
returns-then-rows-self-clause-some c =
    let self = c.args.self.now in
    let whole = c.args.columnar.now.table in
    has_segment self.table (omega (arith, c.if-rows-self.true, c.min-rows.ensures, c.min-most.ensures, self.some, c.requires.more, whole.kept.nonempty (self.first + self.table.segments) c.requires.more))

pub returns-then-rows-self-clause-part : goal.returns-then-rows-self-clause-part
unfolding group_size
returns-then-rows-self-clause-part c =
    let self = c.args.self.now in
    let part = c.requires.part in
    is_part c.args.columnar.now (self.first + self.table.segments) c.min-most.result self.table part.layout part.placement (omega (arith, c.min-most.ensures, c.requires.more)) (omega (arith, c.if-rows-self.true, c.min-rows.ensures))

pub invariant_of-self-in-Break-1 : goal.invariant_of-self-in-Break-1
invariant_of-self-in-Break-1 c = record { some = c.args.self.now.some; early = omega (arith, c.requires.more, few_segments c.args.columnar.now.table) }

pub invariant_of-self-2 : goal.invariant_of-self-2
invariant_of-self-2 c = record { some = c.args.self.now.some; early = omega (arith, c.requires.more, few_segments c.args.columnar.now.table) }

pub returns-clause-some : goal.returns-clause-some
unfolding group_size
returns-clause-some c =
    let self = c.args.self.now in
    let whole = c.args.columnar.now.table in
    has_segment c.in_ok-self.field-0 (omega (arith, c.in_ok-self.ensures.rows, c.min-rows.ensures, c.min-most.ensures, self.some, c.requires.more, whole.kept.nonempty (self.first + self.table.segments) c.requires.more))

pub returns-clause-part : goal.returns-clause-part
unfolding group_size
returns-clause-part c =
    let self = c.args.self.now in
    let made = c.in_ok-self.ensures in
    is_part c.args.columnar.now (self.first + self.table.segments) c.min-most.result c.in_ok-self.field-0 made.layout made.placement (omega (arith, c.min-most.ensures, c.requires.more)) (omega (arith, made.rows, c.min-rows.ensures))

pub returns-then-rows-self-clause-few : goal.returns-then-rows-self-clause-few
returns-then-rows-self-clause-few c =
    at_most c.args.self.now.table c.args.self.now.most (omega (arith, c.if-rows-self.true, c.min-rows.ensures, c.min-most.ensures))

pub returns-clause-few : goal.returns-clause-few
returns-clause-few c =
    at_most c.in_ok-self.field-0 c.args.self.now.most (omega (arith, c.in_ok-self.ensures.rows, c.min-rows.ensures, c.min-most.ensures))
