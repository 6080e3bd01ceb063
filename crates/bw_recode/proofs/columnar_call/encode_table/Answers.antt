-- Each turn adds the rows of one more segment.
use Rattle.std.proofs.Common.{◌≡◌, ◌∙◌, ◌++◌, ◌+◌, ℕ, List, length, map, sym, ap, subst, length-append, arith}
use Rattle.std.proofs.lemmas.List.{map-append}
use Rattle.std.proofs.lemmas.Result.{IfOk-weaker}
use Rattle.bw_model.specs.declared.schema.Schema.{Schema}
use Rattle.bw_model.specs.Groups.{together}
use Rattle.bw_model.specs.Row.{Value}
use Rattle.bw_file.specs.Columnar.{bytes_in_order}
use Rattle.bw_file.specs.Encoder.{Holds, encoder_schema}
use Rattle.bw_file.proofs.MemoryAnswers.{together_more}
use Rattle.bw_file.proofs.OrderLemmas.{same_in_order}
use Rattle.bw_memory.specs.MemoryTable.{layout_of, meaning_numbered, schema_of, segments_in}
use Rattle.bw_memory.specs.StoredSegments.{stored_groups}
use Rattle.bw_memory.specs.declared.table.MemoryTable.{MemoryTable}
use Rattle.bw_memory.proofs.StoredSegmentLemmas.{groups_more, length-rows}
use Rattle.bw_recode.specs.Recode.{replaced_row, replacements_in}
use Rattle.bw_recode.proofs.columnar_call.encode_table.Invariants.{rows_before}
use Rattle.bw_recode.proofs.columnar_call.encode_table.Goals as goal

-- the rows of one segment more
one_more : (table : MemoryTable) (count : ℕ) → rows_before table (count + 1) ≡ rows_before table count ++ (meaning_numbered table count).rows
one_more table count =
    let columns = (schema_of table).columns.items in
    ap (λ (groups : List (List (List Value))). together groups) (groups_more (layout_of table) columns table.rows count table.columns.items)
    ∙ together_more (stored_groups (layout_of table) columns table.rows count table.columns.items) (meaning_numbered table count).rows

pub loop-number-init : goal.loop-number-init
unfolding stored_groups
loop-number-init c = record {
  holds = c.in_ok-encoder.ensures.holds;
  rows = c.in_ok-encoder.ensures.rows;
  layout = c.in_ok-encoder.ensures.layout ∙ c.layout.ensures;
  name = c.in_ok-encoder.ensures.name;
  columns = c.in_ok-encoder.ensures.columns;
  end = c.segments-number-end.ensures;
}

pub add_numbered-requires-clause-capacity : goal.add_numbered-requires-clause-capacity
add_numbered-requires-clause-capacity c =
    let table = c.args.table.now in
    let number = c.loop-number.number in
    let columns = (schema_of table).columns.items in
    omega (
      arith,
      c.loop-number.invariant.rows,
      ap length (one_more table number),
      length-append (rows_before table number) (meaning_numbered table number).rows,
      length-rows (layout_of table) columns table.rows (number + 1) table.columns.items,
      table.within_limit,
    )

pub loop-number-preserved : goal.loop-number-preserved
loop-number-preserved c =
    let table = c.args.table.now in
    let number = c.loop-number.number in
    let f = replaced_row (schema_of table).columns.items (replacements_in c.args.replacements.now) in
    let group = (meaning_numbered table number).rows in
    let all : map f (rows_before table (number + 1)) ≡ map f (rows_before table number) ++ map f group = ap (map f) (one_more table number) ∙ map-append f (rows_before table number) group in
    record {
      holds = subst (Holds c.add_numbered.new.encoder) (sym all) (c.in_ok-add_numbered.ensures.holds _ c.loop-number.invariant.holds);
      rows = c.in_ok-add_numbered.ensures.rows ∙ omega (arith, c.loop-number.invariant.rows, ap length (one_more table number), length-append (rows_before table number) group);
      layout = c.in_ok-add_numbered.ensures.same.0 ∙ c.loop-number.invariant.layout;
      name = ap (λ (schema : Schema). schema.name) c.in_ok-add_numbered.ensures.same.1 ∙ c.loop-number.invariant.name;
      columns = ap (λ (schema : Schema). schema.columns.items) c.in_ok-add_numbered.ensures.same.1 ∙ c.loop-number.invariant.columns;
      end = c.loop-number.invariant.end;
    }

pub returns-clause-file : goal.returns-clause-file
returns-clause-file c =
    let table = c.args.table.now in
    let f = replaced_row (schema_of table).columns.items (replacements_in c.args.replacements.now) in
    let ended : c.loop-number.number ≡ segments_in table = omega (arith, c.loop-number-test.false, c.loop-number.auto.number-end, c.loop-number.invariant.end) in
    IfOk-weaker c.finish_in_order.result _ _ (λ bytes text.
    text (map f (rows_before table c.loop-number.number)) c.loop-number.invariant.holds
    ∙ same_in_order c.args.order _ _ (encoder_schema c.loop-number.encoder) c.args.schema.now _ c.loop-number.invariant.layout c.loop-number.invariant.name c.loop-number.invariant.columns
    ∙ ap (λ (n : ℕ). bytes_in_order c.args.order (layout_of table) c.args.schema.now (map f (rows_before table n))) ended) c.finish_in_order.ensures.bytes
