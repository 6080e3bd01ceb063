-- The column is there, or comes last.
use Rattle.std.proofs.Common.{◌∷◌, [], ◌∙◌, List, ap, map}
use Rattle.std.proofs.lemmas.List.{map-append}
use Rattle.bw_rowwise.specs.declared.columns.LaneColumn.{LaneColumn}
use Rattle.bw_rowwise.proofs.columns.Columns.place_of.Goals as goal

pub returns-clause-grown : goal.returns-clause-grown
returns-clause-grown c = (c.args.number ∷ [], ap (λ (l : List LaneColumn). map (λ (column : LaneColumn). column.number) l) c.in_ok-push.ensures.items ∙ map-append (λ (column : LaneColumn). column.number) c.args.self.now.columns.items _)
