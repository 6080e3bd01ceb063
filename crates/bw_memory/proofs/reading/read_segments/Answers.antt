-- Each segment is kept after those before it.
use Rattle.std.proofs.Common.{◌∙◌, length, refl, sym, ap, arith}
use Rattle.bw_file.specs.AnySegment.{any_is_group}
use Rattle.bw_file.specs.TableReader.{layout_in, rows_given, schema_in}
use Rattle.bw_file.proofs.MemoryAnswers.{columns_of, later_answers, memory_answers, same_table}
use Rattle.bw_file.proofs.NextLemmas.{end_of, refusal_of, segment_of}
use Rattle.bw_memory.proofs.ReadLemmas.{all_kept, given_next, groups_next, kept_next, no_groups}
use Rattle.bw_memory.proofs.ReadLemmas.{none_given, none_read, stored_next}
use Rattle.bw_memory.proofs.reading.read_segments.Goals as goal
use Rattle.bw_model.proofs.ErrLemmas.{err_passed_on}

pub loop-segment-init : goal.loop-segment-init
loop-segment-init g c =
    let none = c.requires.fresh.0 in
    record {
      kept = none_read _ _ _ _ none c.requires.none;
      stored = c.requires.none;
      given = none_given _ _ none;
      read = λ start read. rw (no_groups (layout_in c.args.reader.now) (schema_in c.args.reader.now).columns.items (rows_given c.args.reader.now) c.args.columns.now) read;
      same = record { version = refl; layout = refl; schema = refl; rows = refl };
      reading = c.requires.fresh.1;
      failures = refl;
      within_limit = omega arith;
    }

pub returns-in_err-segment-clause-refused : goal.returns-in_err-segment-clause-refused
returns-in_err-segment-clause-refused g c =
    let so_far = c.loop-segment.invariant in
    rw (err_passed_on _ c.from_residual.ensures.1) (λ start read. later_answers start _ _ _ c.in_err-segment.field-0.0 so_far.failures
    ((refusal_of c.in_err-segment.ensures so_far.reading).answers start _ (so_far.read start read)))

pub returns-in_err-segment-clause-fault : goal.returns-in_err-segment-clause-fault
returns-in_err-segment-clause-fault g c =
    rw (err_passed_on _ c.from_residual.ensures.1) (refusal_of c.in_err-segment.ensures c.loop-segment.invariant.reading).own

pub push_segment-pushed-requires : goal.push_segment-pushed-requires
push_segment-pushed-requires g c =
    let so_far = c.loop-segment.invariant in
    let gave = segment_of (rw c.in-Some.is at c.in_ok-segment.ensures) in
    so_far.kept.blocks.all ∙ ap length (sym (columns_of c.args.reader.now c.loop-segment.reader c.in-Some.segment so_far.same gave.of_table))

pub returns-in_err-pushed-clause-refused : goal.returns-in_err-pushed-clause-refused
returns-in_err-pushed-clause-refused g c =
    let so_far = c.loop-segment.invariant in
    let gave = segment_of (rw c.in-Some.is at c.in_ok-segment.ensures) in
    rw (err_passed_on _ c.from_residual-in_err-pushed.ensures.1) (λ start read. memory_answers start _ _ c.in_err-pushed.field-0.0
    (c.bytes_were_taken.ensures start _ c.next_segment.new.self _ (gave.after start _ (so_far.read start read))).0
    (omega (arith, gave.failures, so_far.failures)) c.in_err-pushed.ensures.only_oom)

pub loop-segment-smaller : goal.loop-segment-smaller
loop-segment-smaller g c =
    let gave = segment_of (rw c.in-Some.is at c.in_ok-segment.ensures) in
    let group = any_is_group c.in-Some.segment in
    omega (arith, gave.of_table.count, gave.row_count, group.nonempty, gave.same.rows)

pub loop-segment-preserved : goal.loop-segment-preserved
loop-segment-preserved g c =
    let so_far = c.loop-segment.invariant in
    let gave = segment_of (rw c.in-Some.is at c.in_ok-segment.ensures) in
    let group = any_is_group c.in-Some.segment in
    let first = c.args.reader.now in
    let reader = c.loop-segment.reader in
    let next = c.next_segment.new.self in
    let segment = c.in-Some.segment in
    let added = c.in_ok-pushed.ensures.added in
    let count = c.loop-segment.count in
    let new = c.push_segment-pushed.new.columns in
    let groups = groups_next first reader next segment count _ new so_far.same gave.of_table so_far.kept so_far.stored so_far.given added gave.row_count in
    record {
      kept = kept_next first reader next segment count _ new so_far.same gave.of_table so_far.kept so_far.stored so_far.given added gave.row_count;
      stored = stored_next first reader next segment count _ new so_far.same gave.of_table so_far.kept so_far.stored so_far.given added gave.row_count;
      given = given_next first reader next segment count _ new so_far.same gave.of_table so_far.kept so_far.stored so_far.given added gave.row_count;
      read = λ start read. rw groups (gave.after start _ (so_far.read start read));
      same = same_table _ _ _ so_far.same gave.same;
      reading = gave.goes_on;
      failures = omega (arith, gave.failures, so_far.failures);
      within_limit = omega (arith, so_far.within_limit, gave.row_count, group.nonempty);
    }

pub returns-clause-kept : goal.returns-clause-kept
returns-clause-kept g c =
    let so_far = c.loop-segment.invariant in
    let ended = end_of (rw c.in_default.is at c.in_ok-segment.ensures) so_far.reading in
    all_kept _ _ c.args.reader.now c.loop-segment.reader c.next_segment.new.self c.loop-segment.count _ so_far.same so_far.kept ended.row_count
    (omega (arith, c.next_segment.new.self.within, c.next_segment.new.self.within_limit)) (λ start read. ended.whole start _ (so_far.read start read)) (λ start read. ended.groups start _ (so_far.read start read))
