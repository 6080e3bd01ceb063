-- Each column that is written goes over from those that are left.
use Rattle.std.proofs.Common.{◌≡◌, ◌∙◌, ◌++◌, List, [], ap, sym, subst, arith, ℕ, ◌≤◌, length, map}
use Rattle.std.proofs.Common.{drop, append-nil}
use Rattle.bw_model.specs.declared.schema.Schema.{Schema}
use Rattle.bw_model.specs.SchemaText.{column_shape, schema_shape, IsSchemaText}
use Rattle.bw_csv_calls.specs.PrintedSchema.{column_line, columns_text, schema_text, table_line}
use Rattle.bw_text.specs.Printing.{line_text}
use Rattle.bw_csv_calls.proofs.PrintedText.{all_written, columns_text-end, columns_text-next}
use Rattle.bw_csv_calls.proofs.PrintedText.{no_comments, text_spells}
use Rattle.bw_text.proofs.PrintedLemmas.{written}
use Rattle.bw_csv_calls.proofs.print.print_schema.Goals as goal

pub loop-column-preserved : goal.loop-column-preserved
loop-column-preserved c =
    let columns = c.args.schema.now.columns.items in
    let same = c.deref-column-items.ensures.value in
    let column = c.column-item.result in
    let is = rw same at c.column-item.is in
    let within = rw same at c.loop-column-test.true in
    let next = columns_text-next columns c.loop-column.column-index column within in
    written c.loop-column.text.items (line_text (column_line (column_shape column))) _ _ _ c.put_column.new.text.items c.in_ok-put_column.ensures (rw (← is) at next) c.loop-column.invariant

-- what the text is at the end
written_all : (schema : Schema) (text : List ℕ) (i : ℕ) → length schema.columns.items ≤ i
    → text ++ columns_text (map column_shape (drop i schema.columns.items)) ≡ line_text (table_line schema.name) ++ columns_text (map column_shape schema.columns.items)
    → text ≡ schema_text (schema_shape schema)
written_all schema text i all e = all_written schema text (ap (λ (l : List ℕ). text ++ l) (sym (columns_text-end schema.columns.items i all)) ∙ e)

pub returns-clause-text : goal.returns-clause-text
returns-clause-text c = written_all c.args.schema.now _ c.loop-column.column-index (rw c.deref-column-items.ensures.value at c.loop-column-test.false) c.loop-column.invariant

pub returns-clause-spelled : goal.returns-clause-spelled
returns-clause-spelled c =
    let schema = c.args.schema.now in
    let all = rw c.deref-column-items.ensures.value at c.loop-column-test.false in
    let text : c.loop-column.text.items ≡ schema_text (schema_shape schema) = written_all schema _ c.loop-column.column-index all c.loop-column.invariant in
    subst (λ (l : List ℕ). IsSchemaText l (schema_shape schema)) (append-nil (schema_text (schema_shape schema)) ∙ sym text)
    (text_spells schema [] c.has_names_and_bounds.ensures.schema no_comments (omega arith))

pub returns-clause-commented : goal.returns-clause-commented
returns-clause-commented c = λ comments none few.
    let schema = c.args.schema.now in
    let all = rw c.deref-column-items.ensures.value at c.loop-column-test.false in
    let text : c.loop-column.text.items ≡ schema_text (schema_shape schema) = written_all schema _ c.loop-column.column-index all c.loop-column.invariant in
    subst (λ (l : List ℕ). IsSchemaText (l ++ comments) (schema_shape schema)) (sym text) (text_spells schema comments c.has_names_and_bounds.ensures.schema none few)
