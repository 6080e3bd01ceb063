-- A query as its items and its condition, wherever these lie in memory.
use Rattle.std.specs.Prelude.{List}
use Rattle.bw_model.specs.declared.query.Item.{Item}
use Rattle.bw_model.specs.declared.query.Query.{Query}
use Rattle.bw_model.specs.CondTree.{CondTree, tree_of}

-- a query as its items and its condition
pub record QueryShape : Type 0 where
  pub items : List Item
  pub cond : CondTree

abbrev pub query_shape : Query → QueryShape
query_shape query = record { items = query.items.items; cond = tree_of query.cond }
