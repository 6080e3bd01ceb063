-- A column that is there already changes nothing.
use Rattle.std.proofs.Common.{◌∙◌, ◌∷◌, [], ◌++◌, ap, sym, map, List, ℕ, ◌==◌}
use Rattle.std.specs.List.{list_any}
use Rattle.bw_model.specs.Row.{value_in}
use Rattle.bw_model.specs.Truth.{in_list}
use Rattle.bw_rowwise.proofs.NumberLemmas.{column_pushed, column_repeated}
use Rattle.bw_rowwise.proofs.prepared.push_once.Goals as goal

pub returns-in_ok-push-clause-added : goal.returns-in_ok-push-clause-added
returns-in_ok-push-clause-added c = λ row x.
    ap (λ (l : List ℕ). in_list x (map (value_in row) l)) c.in_ok-push.ensures.items ∙ column_pushed x row c.args.places.now.items c.args.place

pub returns-else-not-contains-clause-added : goal.returns-else-not-contains-clause-added
returns-else-not-contains-clause-added c = λ row x.
    column_repeated x row c.args.places.now.items c.args.place
    (ap (λ (l : List ℕ). list_any (λ other. other == c.args.place) l) (sym c.deref.ensures.value) ∙ sym c.contains.ensures.value ∙ c.if-not-contains.false)
