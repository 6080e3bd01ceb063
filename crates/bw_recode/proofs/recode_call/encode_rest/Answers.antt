-- Each turn adds the rows of one more segment, and the file's end is that of its rows.
use Rattle.std.proofs.Common.{◌≡◌, ◌∙◌, ◌++◌, ◌∷◌, [], List, map, sym, ap, refl, arith}
use Rattle.std.proofs.lemmas.List.{map-append}
use Rattle.std.proofs.lemmas.Result.{IfOk-weaker}
use Rattle.bw_model.specs.declared.schema.Schema.{Schema}
use Rattle.bw_model.specs.Groups.{together}
use Rattle.bw_model.specs.Row.{Value}
use Rattle.bw_model.proofs.ErrLemmas.{err_passed_on}
use Rattle.bw_file.specs.AnySegment.{any_meaning, any_is_group}
use Rattle.bw_file.specs.Encoder.{encoder_schema}
use Rattle.bw_file.specs.TableReader.{schema_in}
use Rattle.bw_file.proofs.MemoryAnswers.{together_more}
use Rattle.bw_file.proofs.NextLemmas.{segment_of, end_of, refusal_of}
use Rattle.bw_file.proofs.OrderLemmas.{same_in_order}
use Rattle.bw_file.proofs.TableLemmas.{fault_seen, whole_seen}
use Rattle.bw_recode.specs.Recode.{replaced_row, replacements_in}
use Rattle.bw_recode.proofs.recode_call.encode_rest.Goals as goal

pub returns-in_err-segment-clause-refused : goal.returns-in_err-segment-clause-refused
returns-in_err-segment-clause-refused c =
    rw (err_passed_on _ c.from_residual-in_err-segment.ensures.1) (λ kept table began.
    fault_seen table _ _ _ _ refl ((refusal_of c.in_err-segment.ensures c.loop-encoder.invariant.goes_on).answers _ c.loop-encoder.invariant.groups (c.loop-encoder.invariant.read table began)) kept)

pub add_segment-requires-clause-replacing : goal.add_segment-requires-clause-replacing
add_segment-requires-clause-replacing c =
    let gave = segment_of (rw c.in-Some.is at c.in_ok-segment.ensures) in
    rw (gave.of_table.columns, c.loop-encoder.invariant.columns, ap (λ (schema : Schema). schema.columns.items) c.loop-encoder.invariant.same_schema) c.requires.replacing

pub add_segment-requires-clause-capacity : goal.add_segment-requires-clause-capacity
add_segment-requires-clause-capacity c =
    let gave = segment_of (rw c.in-Some.is at c.in_ok-segment.ensures) in
    omega (arith, gave.row_count, c.loop-encoder.invariant.rows, c.next_segment.new.self.within, c.next_segment.new.self.within_limit)

pub loop-encoder-smaller-in_ok-add_segment : goal.loop-encoder-smaller-in_ok-add_segment
loop-encoder-smaller-in_ok-add_segment c =
    let gave = segment_of (rw c.in-Some.is at c.in_ok-segment.ensures) in
    let some = (any_is_group c.in-Some.segment).nonempty in
    omega (arith, gave.row_count, some, gave.same.rows, c.next_segment.new.self.within)

pub loop-encoder-preserved-in_ok-add_segment : goal.loop-encoder-preserved-in_ok-add_segment
loop-encoder-preserved-in_ok-add_segment c =
    let gave = segment_of (rw c.in-Some.is at c.in_ok-segment.ensures) in
    let groups = c.loop-encoder.invariant.groups in
    let rows = (any_meaning c.in-Some.segment).rows in
    let f = replaced_row (schema_in c.loop-encoder.reader).columns.items (replacements_in c.args.replacements.now) in
    let all : map f (together (groups ++ rows ∷ [])) ≡ map f (together groups) ++ map f rows = ap (λ (rows : List (List Value)). map f rows) (together_more groups rows) ∙ map-append f (together groups) rows in
    record {
      goes_on = gave.goes_on;
      groups = groups ++ rows ∷ [];
      read = λ table began. gave.after _ groups (c.loop-encoder.invariant.read table began);
      holds = rw (gave.same.schema, all) (rw gave.of_table.columns at (c.in_ok-add_segment.ensures.holds _ c.loop-encoder.invariant.holds));
      rows = omega (arith, c.in_ok-add_segment.ensures.rows, c.loop-encoder.invariant.rows, gave.row_count);
      layout = c.in_ok-add_segment.ensures.same.0 ∙ c.loop-encoder.invariant.layout ∙ sym gave.same.layout;
      same_layout = gave.same.layout ∙ c.loop-encoder.invariant.same_layout;
      same_schema = gave.same.schema ∙ c.loop-encoder.invariant.same_schema;
      name = ap (λ (schema : Schema). schema.name) c.in_ok-add_segment.ensures.same.1 ∙ c.loop-encoder.invariant.name;
      columns = ap (λ (schema : Schema). schema.columns.items) c.in_ok-add_segment.ensures.same.1 ∙ c.loop-encoder.invariant.columns;
    }

pub loop-encoder-smaller : goal.loop-encoder-smaller
loop-encoder-smaller c =
    let gave = segment_of (rw c.in-Some.is at c.in_ok-segment.ensures) in
    let some = (any_is_group c.in-Some.segment).nonempty in
    omega (arith, gave.row_count, some, gave.same.rows, c.next_segment.new.self.within)

pub loop-encoder-preserved : goal.loop-encoder-preserved
loop-encoder-preserved c =
    let gave = segment_of (rw c.in-Some.is at c.in_ok-segment.ensures) in
    let groups = c.loop-encoder.invariant.groups in
    let rows = (any_meaning c.in-Some.segment).rows in
    let f = replaced_row (schema_in c.loop-encoder.reader).columns.items (replacements_in c.args.replacements.now) in
    let all : map f (together (groups ++ rows ∷ [])) ≡ map f (together groups) ++ map f rows = ap (λ (rows : List (List Value)). map f rows) (together_more groups rows) ∙ map-append f (together groups) rows in
    record {
      goes_on = gave.goes_on;
      groups = groups ++ rows ∷ [];
      read = λ table began. gave.after _ groups (c.loop-encoder.invariant.read table began);
      holds = rw (gave.same.schema, all) (rw gave.of_table.columns at (c.in_ok-add_segment.ensures.holds _ c.loop-encoder.invariant.holds));
      rows = omega (arith, c.in_ok-add_segment.ensures.rows, c.loop-encoder.invariant.rows, gave.row_count);
      layout = c.in_ok-add_segment.ensures.same.0 ∙ c.loop-encoder.invariant.layout ∙ sym gave.same.layout;
      same_layout = gave.same.layout ∙ c.loop-encoder.invariant.same_layout;
      same_schema = gave.same.schema ∙ c.loop-encoder.invariant.same_schema;
      name = ap (λ (schema : Schema). schema.name) c.in_ok-add_segment.ensures.same.1 ∙ c.loop-encoder.invariant.name;
      columns = ap (λ (schema : Schema). schema.columns.items) c.in_ok-add_segment.ensures.same.1 ∙ c.loop-encoder.invariant.columns;
    }

pub returns-clause-file : goal.returns-clause-file
returns-clause-file c =
    let groups = c.loop-encoder.invariant.groups in
    let columns = (schema_in c.args.reader.now).columns.items in
    let ended = end_of (rw c.in_default.is at c.in_ok-segment.ensures) c.loop-encoder.invariant.goes_on in
    let layout = c.loop-encoder.invariant.layout ∙ c.loop-encoder.invariant.same_layout in
    let holds = rw c.loop-encoder.invariant.same_schema at c.loop-encoder.invariant.holds in
    IfOk-weaker c.finish_in_order.result _ _ (λ bytes text. λ table began. record {
      rows = together groups;
      read = rw (c.loop-encoder.invariant.same_layout, c.loop-encoder.invariant.same_schema) at (whole_seen table _ _ _ (ended.whole _ groups (c.loop-encoder.invariant.read table began)));
      is = text (map (replaced_row columns (replacements_in c.args.replacements.now)) (together groups)) holds
          ∙ same_in_order c.args.order _ _ (encoder_schema c.loop-encoder.encoder) c.args.schema.now _ layout c.loop-encoder.invariant.name c.loop-encoder.invariant.columns;
    }) c.finish_in_order.ensures.bytes
