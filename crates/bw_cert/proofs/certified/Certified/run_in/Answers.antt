-- The result register on a segment's lanes, masked to its rows.
use Rattle.std.proofs.Common.{◌≡◌, ◌∙◌, sym, ap, subst, ◌-◌, ◌++◌, ◌&&◌, Bool, true, false, List}
use Rattle.std.proofs.Common.{length, map, replicate}
use Rattle.std.specs.List.{list_all}
use Rattle.std.specs.Simd.Lanes.{zip2}
use Rattle.std.proofs.lemmas.List.{length-map, length-replicate}
use Rattle.bw_model.specs.declared.column.Column.{Column}
use Rattle.bw_model.specs.Column.{admits_values}
use Rattle.bw_model.specs.Cond.{is_match}
use Rattle.bw_model.specs.Groups.{group_size, lanes_of}
use Rattle.bw_model.specs.Row.{Value}
use Rattle.bw_model.specs.StoredCodes.{no_bits}
use Rattle.bw_program.specs.Machine.{end_state}
use Rattle.bw_run.specs.Run.{first_lanes}
use Rattle.bw_cert.proofs.SelectionLemmas.{register_is, masked, on_lane}
use Rattle.bw_cert.proofs.certified.Certified.run_in.Goals as goal

pub returns-clause-rows : goal.returns-clause-rows
returns-clause-rows g c =
    let self = c.args.self.now in
    let meaning = g.S.Segment.meaning c.args.segment.now in
    let admitted = subst (λ columns. list_all (admits_values columns) meaning.rows ≡ true) c.requires (g.met.S.Segment.is_group c.args.segment.now).admitted in
    let rows : List (List Value) = meaning.rows in
    let others : List Bool = map (on_lane self.schema.columns.items self.condition) (replicate (group_size - length rows) no_bits) in
    let count : length others ≡ group_size - length rows = length-map (replicate (group_size - length rows) no_bits) (on_lane self.schema.columns.items self.condition) ∙ length-replicate (group_size - length rows) no_bits in
    c.run_in.ensures.plane
    ∙ ap (λ (columns : List Column). zip2 (λ a b. a && b) ((end_state columns (lanes_of columns rows) self.program).registers self.program.result) (first_lanes (length rows))) c.requires
    ∙ ap (λ bits. zip2 (λ a b. a && b) bits (first_lanes (length rows))) (register_is self.schema.columns.items self.condition self.program rows self.selects c.bits_spell_row.ensures admitted)
    ∙ ap (λ n. zip2 (λ a b. a && b) (map (is_match self.condition) rows ++ others) (replicate n true ++ replicate (group_size - length rows) false)) (sym (length-map rows (is_match self.condition)))
    ∙ masked (map (is_match self.condition) rows) others (group_size - length rows) count
