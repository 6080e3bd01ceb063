-- A column has the record's field at its place.
use Rattle.std.proofs.Common.{◌∙◌, ◌<◌, ◌∷◌, ◌++◌, sym, ap, [], ℕ, List, get_or, arith}
use Rattle.bw_encode.specs.Selection.{count_in}
use Rattle.bw_encode.proofs.RowLemmas.{field_at}
use Rattle.bw_encode.proofs.columns.add_row.Goals as goal

pub returns : goal.returns
returns c = record {
  count = c.loop-k.invariant.size;
  each = λ column lt.
      let in' : column < count_in c.args.selection.columns c.args.width = omega (arith, c.requires) in
      let size = c.loop-k.invariant.size in
      c.loop-k.invariant.done column (omega arith)
      ∙ ap (λ (f : List ℕ). get_or c.args.columns.now.items column [] ++ f ∷ []) (sym (field_at c.args.selection c.args.width column c.args.fields.now in'));
}
