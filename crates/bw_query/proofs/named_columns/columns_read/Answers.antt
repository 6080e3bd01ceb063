-- One column more.
use Rattle.std.proofs.Common.{Bool, List, [], ◌∷◌, ◌++◌, ◌∙◌, ap₂, sym, arith}
use Rattle.std.proofs.lemmas.List.FromFn.{map-range_with_len_more}
use Rattle.bw_query.specs.NamedColumns.{is_read}
use Rattle.bw_query.specs.Scan.{program_of}
use Rattle.bw_query.proofs.named_columns.columns_read.Goals as goal

pub loop-column-preserved : goal.loop-column-preserved
loop-column-preserved c =
    let column = c.loop-column.column in
    let read = is_read (program_of c.args.scan.now) c.args.query.now in
    c.in_ok-push.ensures.items ∙ ap₂ (λ (l : List Bool) (b : Bool). l ++ b ∷ []) c.loop-column.invariant c.is_read.ensures ∙ sym (map-range_with_len_more read 0 column column (omega arith))
