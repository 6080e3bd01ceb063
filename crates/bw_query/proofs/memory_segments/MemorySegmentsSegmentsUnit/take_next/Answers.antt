-- The table's next segment that isn't settled, after those before it.
use Rattle.std.proofs.Common.{◌∙◌, ◌+◌, ◌<◌, ap, ap₂, arith, length, refl, subst, sym, Bool, List, Bor}
use Rattle.bw_model.specs.Groups.{together}
use Rattle.bw_memory.specs.declared.table.MemoryTable.{MemoryTable}
use Rattle.bw_memory.specs.MemoryTable.{meaning_numbered, segments_in}
use Rattle.bw_segment.specs.Meaning.{Meaning}
use Rattle.bw_query.specs.Segments.{Consumes, open_groups}
use Rattle.bw_query.proofs.GroupLemmas.{taken_as}
use Rattle.bw_query.proofs.SettledLemmas.{open_after, open_end, open_grow, open_rows_more, passed_over}
use Rattle.bw_query.proofs.memory_segments.MemorySegmentsSegmentsUnit.take_next.Goals as goal

pub take-requires-clause-fits : goal.take-requires-clause-fits
take-requires-clause-fits g c =
    let now = c.advance.new.self in
    let same = ap (λ (b : Bor MemoryTable). b.now) c.advance.ensures.table in
    let means = c.in_ok-segment.ensures.means ∙ ap (λ (t : MemoryTable). meaning_numbered t now.next) same in
    subst (λ (m : Meaning). g.C.SegmentConsumer.fits c.args.consumer.now m.columns) (sym means) c.requires.fits

pub returns-then-not-advance-clause-ended : goal.returns-then-not-advance-clause-ended
returns-then-not-advance-clause-ended g c = λ none start from groups gave.
    let self = c.args.self.now in
    let next = c.advance in
    let number = next.new.self.next in
    let passed = passed_over self.table.now self.settled.now self.next number next.ensures.from next.ensures.passed in
    open_end self.table.now self.settled.now self.next number passed start.table.now start.settled.now groups gave.0 gave.1 gave.2 (next.ensures.none c.if-not-advance.true)

pub take-requires-clause-capacity : goal.take-requires-clause-capacity
take-requires-clause-capacity g c =
    let self = c.args.self.now in
    let table = self.table.now in
    let settled = self.settled.now in
    let now = c.advance.new.self in
    let number = now.next in
    let same = ap (λ (b : Bor MemoryTable). b.now) c.advance.ensures.table in
    let there : number < table.segments = omega (arith, c.advance.ensures.some c.if-not-advance.false, now.most, ap segments_in same) in
    let passed = passed_over table settled self.next number c.advance.ensures.from c.advance.ensures.passed in
    let more = open_rows_more table settled self.next number passed (c.advance.ensures.unsettled c.if-not-advance.false) in
    let means = c.in_ok-segment.ensures.means ∙ ap (λ (t : MemoryTable). meaning_numbered t number) same in
    omega (
      arith,
      ap (λ (m : Meaning). length m.rows) means,
      c.requires.rows,
      more,
      self.fits,
      open_grow table settled (number + 1) table.segments (omega (arith, there)),
    )

pub returns-clause-taken : goal.returns-clause-taken
returns-clause-taken g c = λ came.
    let self = c.args.self.now in
    let table = self.table.now in
    let settled = self.settled.now in
    let now = c.advance.new.self in
    let number = now.next in
    let same = ap (λ (b : Bor MemoryTable). b.now) c.advance.ensures.table in
    let marks = ap (λ (b : Bor (List Bool)). b.now) c.advance.ensures.settled in
    let passed = passed_over table settled self.next number c.advance.ensures.from c.advance.ensures.passed in
    let is = c.advance.ensures.unsettled c.if-not-advance.false in
    let means = c.in_ok-segment.ensures.means ∙ ap (λ (t : MemoryTable). meaning_numbered t number) same in
    let consumed = subst (λ (m : Meaning). Consumes m.columns m.rows g.C.SegmentConsumer.fits g.C.SegmentConsumer.rows g.C.SegmentConsumer.over c.args.consumer.now c.take.new.self) means c.in_ok-take.ensures.consumes in
    let rows = ap₂ (λ (t : MemoryTable) (s : List Bool). length (together (open_groups t s (number + 1)))) same marks ∙ open_rows_more table settled self.next number passed is in
    taken_as _ _ refl (meaning_numbered table number).rows _ _ _ _ _ _
    (omega (arith, rows, c.advance.ensures.counted), λ start from groups gave. let after = open_after table settled self.next number passed start.table.now start.settled.now groups gave.0 gave.1 gave.2 is in (same ∙ after.0, marks ∙ after.1, after.2)) consumed

pub returns-clause-capacity : goal.returns-clause-capacity
returns-clause-capacity g c = λ came.
    let now = c.advance.new.self in
    let there : now.next < segments_in now.table.now = omega (arith, c.advance.ensures.some c.if-not-advance.false, now.most) in
    omega (arith, now.fits, open_grow now.table.now now.settled.now (now.next + 1) (segments_in now.table.now) (omega (arith, there)))
