use Rattle.std.proofs.Common.{◌∙◌, arith}
use Rattle.bw_segment.specs.Packing.{bytes_before}
use Rattle.bw_segment.proofs.PlacementLemmas.{starts_count, start_at}
use Rattle.bw_segment.proofs.placement.Placement.start.Goals as goal

pub index-requires : goal.index-requires
index-requires g c = let columns = c.args.self.now.schema.columns.items in omega (arith, c.requires.column, starts_count (bytes_before g.L.CodeLayout.packing columns) columns c.args.self.now.starts.items c.requires.placed.starts)

pub returns : goal.returns
returns g c =
    let columns = c.args.self.now.schema.columns.items in
    c.index.ensures ∙ start_at (bytes_before g.L.CodeLayout.packing columns) columns c.args.self.now.starts.items c.args.col c.index.result.now c.requires.placed.starts c.requires.column
