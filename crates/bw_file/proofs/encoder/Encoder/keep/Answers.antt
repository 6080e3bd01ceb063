use Rattle.std.proofs.Common.{◌≡◌, ◌++◌, ◌∷◌, List, [], sym, ap, ◌∙◌, subst, length, length-append}
use Rattle.std.proofs.Common.{append_assoc, arith}
use Rattle.bw_model.specs.Row.{Value, values_of}
use Rattle.bw_segment.specs.Columns.{KeepRows}
use Rattle.bw_segment.proofs.ColumnLemmas.{written}
use Rattle.bw_file.proofs.EncoderLemmas.{admitted_more}
use Rattle.bw_file.proofs.encoder.Encoder.keep.Goals as goal

pub returns-clause-holds : goal.returns-clause-holds
returns-clause-holds c = λ rows holds.
    let columns = c.args.self.now.placement.schema.columns.items in
    let row = values_of c.args.row.now in
    let size : length c.keep_row.new.kept ≡ c.args.self.now.kept.len = omega (arith, c.keep_row.auto.kept, c.deref_mut.ensures.len) in
    let given = subst (KeepRows columns holds.group) (sym c.deref_mut.ensures.value) holds.kept in
    record {
      before = holds.before;
      group = holds.group ++ row ∷ [];
      groups = holds.groups;
      parts = ap (λ (l : List (List Value)). l ++ row ∷ []) holds.parts ∙ append_assoc holds.before holds.group (row ∷ []);
      whole = holds.whole;
      text = holds.text;
      kept = subst (KeepRows columns (holds.group ++ row ∷ [])) (sym (written c.keep_row.new.kept c.args.self.now.kept.items c.args.self.now.kept.len size)) (c.keep_row.ensures holds.group holds.filled given);
      filled = omega (arith, length-append holds.group (row ∷ []), holds.filled);
      count = omega (arith, length-append rows (row ∷ []), holds.count);
      admitted = admitted_more columns rows row holds.admitted (omega (arith, holds.count, c.requires.capacity)) c.requires.admitted;
    }
