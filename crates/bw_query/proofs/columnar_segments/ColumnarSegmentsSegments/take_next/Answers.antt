-- The next segment, after those before it.
use Rattle.std.proofs.Common.{◌∙◌, ◌+◌, ◌<◌, ap, arith, length, refl, subst}
use Rattle.bw_segment.specs.declared.placement.Placement.{Placement}
use Rattle.bw_segment.specs.Meaning.{Meaning}
use Rattle.bw_memory.specs.declared.columnar.ColumnarTable.{ColumnarTable}
use Rattle.bw_memory.specs.declared.table.MemoryTable.{MemoryTable}
use Rattle.bw_memory.specs.Columnar.{table_in}
use Rattle.bw_memory.specs.MemoryTable.{meaning_numbered, segments_in}
use Rattle.bw_query.specs.ColumnarSegments.{rows_before}
use Rattle.bw_query.specs.Segments.{Consumes}
use Rattle.bw_query.proofs.GroupLemmas.{taken_as}
use Rattle.bw_query.proofs.PartLemmas.{given_still, part_taken, rows_by_columns}
use Rattle.bw_query.proofs.columnar_segments.ColumnarSegmentsSegments.take_next.Goals as goal

pub take-requires-clause-capacity : goal.take-requires-clause-capacity
take-requires-clause-capacity g c =
    let self = c.has_next.new.self in
    let columnar = c.args.self.now.columnar.now in
    let table = self.window.table in
    let next = c.in_ok-has_next.ensures in
    let there : self.next < segments_in table = next.some c.if-not-branch.false in
    let means = c.in_ok-segment.ensures.means ∙ ap (λ (t : MemoryTable). meaning_numbered t self.next) c.table.ensures in
    let more = rows_by_columns columnar self.window.first self.next (self.next + 1) table next.window.part there refl in
    omega (arith, ap (λ (m : Meaning). length m.rows) means, c.requires.rows, ap (rows_before columnar) next.next, more, (table_in columnar).within_limit)

pub returns-clause-taken : goal.returns-clause-taken
returns-clause-taken g c = λ came.
    let self = c.has_next.new.self in
    let columnar = c.args.self.now.columnar.now in
    let table = self.window.table in
    let next = c.in_ok-has_next.ensures in
    let there : self.next < segments_in table = next.some c.if-not-branch.false in
    let rows = (meaning_numbered table self.next).rows in
    let means = c.in_ok-segment.ensures.means ∙ ap (λ (t : MemoryTable). meaning_numbered t self.next) c.table.ensures in
    let more = rows_by_columns columnar self.window.first self.next (self.next + 1) table next.window.part there refl in
    let consumed = subst (λ (m : Meaning). Consumes m.columns m.rows g.C.SegmentConsumer.fits g.C.SegmentConsumer.rows g.C.SegmentConsumer.over c.args.consumer.now c.take.new.self) means c.in_ok-take.ensures.consumes in
    taken_as _ _ (ap (λ (p : Placement). p.schema.columns.items) next.window.part.placement) rows _ _ _ _ _ _ (
      ap (λ (f : ColumnarTable). rows_before f (self.window.first + (self.next + 1))) next.columnar ∙ more ∙ ap (λ n. rows_before columnar n + length rows) next.next,
      λ start from groups given.
          part_taken (given_still given (g.D.RandomAccess.state c.has_next.new.device) self.columnar.now self.wanted.now self.window self.next next.window next.next next.columnar next.wanted next.same (omega (arith, next.count)))
          (self.next + 1) there refl,
    ) consumed
