use Rattle.std.proofs.Common.{◌∙◌, ap, ◌<◌, ◌≤◌, ℕ, length, get_or, arith}
use Rattle.std.proofs.lemmas.List.Elements.{All-get_or}
use Rattle.std.proofs.lemmas.List.FromFn.{length-map-range_with_len, get_or-map-range_with_len}
use Rattle.bw_model.specs.Code.{width_at}
use Rattle.bw_segment.proofs.placement.Placement.width.Goals as goal

pub index-requires : goal.index-requires
index-requires c = let columns = c.args.self.now.schema.columns.items in
    omega (arith, c.requires, ap length c.args.self.now.same_width, length-map-range_with_len (width_at columns) 0 (length columns))

pub returns-clause-width : goal.returns-clause-width
returns-clause-width c =
    let columns = c.args.self.now.schema.columns.items in
    let col = c.args.col in
    let width = c.index.result.now in
    c.index.ensures ∙ ap (λ l. get_or l col width) c.args.self.now.same_width ∙ get_or-map-range_with_len (width_at columns) 0 (length columns) col col width c.requires (omega arith)

pub returns-clause-bounds : goal.returns-clause-bounds
returns-clause-bounds c =
    let columns = c.args.self.now.schema.columns.items in
    let there : c.args.col < length c.args.self.now.widths.items = omega (arith, c.requires, ap length c.args.self.now.same_width, length-map-range_with_len (width_at columns) 0 (length columns)) in
    let found = All-get_or (λ (width : ℕ). (1 ≤ width) × (width ≤ 63)) c.args.self.now.widths.items c.args.col c.index.result.now there c.args.self.now.bounded in
    (omega (arith, c.index.ensures, found.0), omega (arith, c.index.ensures, found.1))
