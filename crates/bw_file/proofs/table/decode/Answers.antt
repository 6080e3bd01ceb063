use Rattle.std.proofs.Common.{◌++◌, ◌∷◌, [], List, map, ap, sym, ◌∙◌, refl, arith}
use Rattle.bw_model.specs.declared.schema.Schema.{Schema}
use Rattle.bw_model.specs.Row.{Value, values_of}
use Rattle.bw_model.proofs.ErrLemmas.{err_passed_on}
use Rattle.bw_file.specs.AnySegment.{any_meaning, any_is_group}
use Rattle.bw_file.proofs.FileSpelling.{read_is_spelled_by}
use Rattle.bw_file.proofs.NextLemmas.{segment_of, end_of, refusal_of}
use Rattle.bw_file.proofs.SpelledFile.{bytes_read}
use Rattle.bw_file.proofs.TableLemmas.{fault_seen, whole_seen, found_same}
use Rattle.bw_file.proofs.MemoryAnswers.{together_more}
use Rattle.bw_file.proofs.table.decode.Goals as goal

pub returns-in_err-segment-clause-fault : goal.returns-in_err-segment-clause-fault
returns-in_err-segment-clause-fault c =
    let came = c.loop-rows.invariant.came in
    rw (err_passed_on _ c.from_residual-in_err-segment.ensures.1) (fault_seen c.args.bytes.now _ _ _ _ refl ((refusal_of c.in_err-segment.ensures c.loop-rows.invariant.goes_on).answers _ came.0 came.1))

pub loop-rows-smaller-in_ok-push_rows : goal.loop-rows-smaller-in_ok-push_rows
loop-rows-smaller-in_ok-push_rows c =
    let gave = segment_of (rw c.in-Some.is at c.in_ok-segment.ensures) in
    let some = (any_is_group c.in-Some.segment).nonempty in
    omega (arith, gave.row_count, some, gave.same.rows, c.next_segment.new.self.within)

pub loop-rows-preserved-in_ok-push_rows : goal.loop-rows-preserved-in_ok-push_rows
loop-rows-preserved-in_ok-push_rows c =
    let gave = segment_of (rw c.in-Some.is at c.in_ok-segment.ensures) in
    let came = c.loop-rows.invariant.came in
    let rows = (any_meaning c.in-Some.segment).rows in
    record {
      goes_on = gave.goes_on;
      came = (
        came.0 ++ rows ∷ [],
        gave.after _ came.0 came.1,
        c.in_ok-push_rows.ensures.rows ∙ ap (λ (front : List (List Value)). front ++ rows) came.2 ∙ sym (together_more came.0 rows),
      );
    }

pub loop-rows-smaller : goal.loop-rows-smaller
loop-rows-smaller c =
    let gave = segment_of (rw c.in-Some.is at c.in_ok-segment.ensures) in
    let some = (any_is_group c.in-Some.segment).nonempty in
    omega (arith, gave.row_count, some, gave.same.rows, c.next_segment.new.self.within)

pub loop-rows-preserved : goal.loop-rows-preserved
loop-rows-preserved c =
    let gave = segment_of (rw c.in-Some.is at c.in_ok-segment.ensures) in
    let came = c.loop-rows.invariant.came in
    let rows = (any_meaning c.in-Some.segment).rows in
    record {
      goes_on = gave.goes_on;
      came = (
        came.0 ++ rows ∷ [],
        gave.after _ came.0 came.1,
        c.in_ok-push_rows.ensures.rows ∙ ap (λ (front : List (List Value)). front ++ rows) came.2 ∙ sym (together_more came.0 rows),
      );
    }

pub returns-clause-read : goal.returns-clause-read
returns-clause-read c =
    let came = c.loop-rows.invariant.came in
    let ended = end_of (rw c.in_default.is at c.in_ok-segment.ensures) c.loop-rows.invariant.goes_on in
    let whole = whole_seen c.args.bytes.now _ _ _ (ended.whole _ came.0 came.1) in
    let same = ended.same in
    found_same c.args.bytes.now c.loop-rows.reader came.0 c.layout.result c.in_ok-copy.field-0 (map values_of c.loop-rows.rows.items) (c.layout.ensures ∙ same.layout)
    (c.in_ok-copy.ensures.name ∙ ap (λ (schema : Schema). schema.name) (c.schema.ensures ∙ same.schema))
    (c.in_ok-copy.ensures.columns ∙ ap (λ (schema : Schema). schema.columns.items) (c.schema.ensures ∙ same.schema)) came.2 whole

pub returns-clause-table : goal.returns-clause-table
returns-clause-table c =
    read_is_spelled_by c.args.bytes.now _ c.in_ok-copy.field-0 (λ i. omega (arith, c.type_inv.bytes i)) refl (returns-clause-read c)

pub returns-clause-accepted : goal.returns-clause-accepted
returns-clause-accepted c = λ layout schema rows file. bytes_read c.args.bytes.now layout schema rows _ file (returns-clause-read c)

pub returns-in_err-segment-clause-accepted : goal.returns-in_err-segment-clause-accepted
returns-in_err-segment-clause-accepted c =
    let came = c.loop-rows.invariant.came in
    rw (err_passed_on _ c.from_residual-in_err-segment.ensures.1) (λ layout schema rows file kept.
    bytes_read c.args.bytes.now layout schema rows _ file (fault_seen c.args.bytes.now _ _ _ _ refl ((refusal_of c.in_err-segment.ensures c.loop-rows.invariant.goes_on).answers _ came.0 came.1) kept))

pub returns-in_err-reader-clause-accepted : goal.returns-in_err-reader-clause-accepted
returns-in_err-reader-clause-accepted c =
    let refused = c.in_err-reader.ensures.refused in
    rw (err_passed_on _ c.from_residual.ensures.1) (λ layout schema rows file kept.
    bytes_read c.args.bytes.now layout schema rows _ file (fault_seen c.args.bytes.now _ _ refused.0 _ refl refused.1 kept))

pub returns-in_err-segment-clause-code : goal.returns-in_err-segment-clause-code
returns-in_err-segment-clause-code c =
    rw (err_passed_on _ c.from_residual-in_err-segment.ensures.1) (refusal_of c.in_err-segment.ensures c.loop-rows.invariant.goes_on).own
