use Rattle.std.proofs.Common.{◌∙◌, [], arith}
use Rattle.std.proofs.lemmas.List.{length-map}
use Rattle.std.proofs.lemmas.List.Elements.{filter-append}
use Rattle.bw_model.specs.Cond.{is_match}
use Rattle.bw_model.specs.Selection.{selection}
use Rattle.bw_model.proofs.GroupLemmas.{filter-selected, selected_items-positions}
use Rattle.bw_model.proofs.GroupLemmas.{positions_from-append, selected_items-append}
use Rattle.bw_model.proofs.groups.kept_rows_are_selected.Goals as goal

pub returns : goal.returns
returns c = record {
  bits = λ cond. filter-selected (is_match cond);
  positions = λ cond rows. filter-selected (is_match cond) rows ∙ selected_items-positions [] (selection cond rows) [] rows (omega (arith, length-map rows (is_match cond)));
  kept = λ cond. filter-append (is_match cond);
  joined = λ front back position. positions_from-append position front back;
  selected = selected_items-append;
}
