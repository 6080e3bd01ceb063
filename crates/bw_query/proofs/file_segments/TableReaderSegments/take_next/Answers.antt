-- The reader's next segment, its end or its error, after the groups so far.
use Rattle.std.proofs.Common.{List, arith, subst, sym}
use Rattle.bw_model.proofs.ErrLemmas.{err_passed_on}
use Rattle.bw_model.specs.declared.column.Column.{Column}
use Rattle.bw_model.specs.declared.fault.Fault.{Fault}
use Rattle.bw_file.specs.AnySegment.{any_is_group, any_meaning}
use Rattle.bw_file.specs.Reading.{state_at}
use Rattle.bw_file.specs.TableReader.{bytes_taken}
use Rattle.bw_file.proofs.MemoryAnswers.{later_answers}
use Rattle.bw_file.proofs.NextLemmas.{end_of, refusal_of, segment_of}
use Rattle.bw_query.specs.SegmentLemmas.{file_fails_among}
use Rattle.bw_query.specs.Segments.{HasFailed}
use Rattle.bw_query.proofs.GroupLemmas.{given_more, taken_as}
use Rattle.bw_query.proofs.TableExits.{table_writes_nothing}
use Rattle.bw_query.proofs.file_segments.TableReaderSegments.take_next.Goals as goal

pub returns-in_err-segment-clause-refused : goal.returns-in_err-segment-clause-refused
returns-in_err-segment-clause-refused g c =
    rw (err_passed_on _ c.from_residual.ensures.1) (λ start from groups given begin read. later_answers begin _ _ _ c.in_err-segment.field-0.0 given.failures
    ((refusal_of c.in_err-segment.ensures given.reading).answers begin groups (given.read begin read)))

pub returns-in_err-segment-clause-fault : goal.returns-in_err-segment-clause-fault
returns-in_err-segment-clause-fault g c =
    rw (err_passed_on _ c.from_residual.ensures.1) (table_writes_nothing c.in_err-segment.field-0.0 (refusal_of c.in_err-segment.ensures c.requires.began.3.reading).own)

pub take_either-taken-requires-clause-fits : goal.take_either-taken-requires-clause-fits
take_either-taken-requires-clause-fits g c =
    let gave = segment_of (rw c.in-Some.is at c.in_ok-segment.ensures) in
    subst (λ (columns : List Column). g.C.SegmentConsumer.fits c.args.consumer.now columns) (sym gave.of_table.columns) c.requires.fits

pub take_either-taken-requires-clause-capacity : goal.take_either-taken-requires-clause-capacity
take_either-taken-requires-clause-capacity g c =
    let gave = segment_of (rw c.in-Some.is at c.in_ok-segment.ensures) in
    omega (arith, c.requires.rows, gave.row_count, c.next_segment.new.self.within, c.next_segment.new.self.within_limit)

pub returns-in_err-taken-in-Some-clause-refused : goal.returns-in_err-taken-in-Some-clause-refused
returns-in_err-taken-in-Some-clause-refused g c =
    let gave = segment_of (rw c.in-Some.is at c.in_ok-segment.ensures) in
    rw (err_passed_on _ c.from_residual-in_err-taken-in-Some.ensures.1) (λ start from groups given.
    let more = given_more _ start groups _ _ _ _ c.in-Some.segment given gave in
    subst (λ (fault : Fault). HasFailed (state_at (g.S.Source.state from) (bytes_taken start)) start
    (state_at (g.S.Source.state c.next_segment.new.source) (bytes_taken c.next_segment.new.self)) fault)
    (sym c.in_err-taken-in-Some.ensures.only_oom) (file_fails_among _ start _ _ _ more))

pub returns-in_ok-taken-in-Some-clause-taken : goal.returns-in_ok-taken-in-Some-clause-taken
returns-in_ok-taken-in-Some-clause-taken g c = λ came.
    let gave = segment_of (rw c.in-Some.is at c.in_ok-segment.ensures) in
    taken_as _ _ gave.of_table.columns (any_meaning c.in-Some.segment).rows _ _ _ _ _ _
    (gave.row_count, λ start from groups given. given_more _ start groups _ _ _ _ c.in-Some.segment given gave) c.in_ok-taken-in-Some.ensures.consumes

pub returns-in_ok-taken-in-Some-clause-left : goal.returns-in_ok-taken-in-Some-clause-left
returns-in_ok-taken-in-Some-clause-left g c = λ came.
    let gave = segment_of (rw c.in-Some.is at c.in_ok-segment.ensures) in
    omega (arith, gave.of_table.count, gave.row_count, (any_is_group c.in-Some.segment).nonempty, gave.same.rows)

pub returns-in_ok-taken-in-Some-clause-table : goal.returns-in_ok-taken-in-Some-clause-table
returns-in_ok-taken-in-Some-clause-table g c = λ came. (segment_of (rw c.in-Some.is at c.in_ok-segment.ensures)).same.schema

pub returns-in-None-clause-ended : goal.returns-in-None-clause-ended
returns-in-None-clause-ended g c = λ none start from groups given.
    let ended = end_of (rw c.in-None.is at c.in_ok-segment.ensures) given.reading in
    record {
      read = λ begin read. rw (given.same.layout, given.same.schema) at (ended.whole begin groups (given.read begin read));
      cut = λ begin read. ended.groups begin groups (given.read begin read);
    }
