-- The words of connectives and of aggregates, and what these build.
use Rattle.std.specs.Prelude.{ℕ}
use Rattle.bw_text.specs.declared.keyword.Keyword.{Keyword}
use Rattle.bw_text.specs.declared.keyword.Keyword.TheVariants as word
use Rattle.bw_model.specs.declared.query.Item.{Item}
use Rattle.bw_model.specs.declared.query.Item.TheVariants.{Count, Sum, Min, Max}
use Rattle.bw_model.specs.CondTree.{CondTree, CondTrees, And, Or}
use Rattle.bw_model.specs.declared.junction.Junction.{Junction}
use Rattle.bw_model.specs.declared.junction.Junction.TheVariants as junction
use Rattle.bw_sql.specs.declared.items.Aggregate.{Aggregate}
use Rattle.bw_sql.specs.declared.items.Aggregate.TheVariants as aggregate

-- a connective's word, and the condition that parts make with it
abbrev pub word_of : Junction → Keyword
word_of junction.All = word.And
word_of junction.Any = word.Or

abbrev pub join_of : Junction → CondTrees → CondTree
join_of junction.All parts = And parts
join_of junction.Any parts = Or parts

-- an aggregate's word, and the item that it makes of a column
abbrev pub aggregate_word : Aggregate → Keyword
aggregate_word aggregate.Count = word.Count
aggregate_word aggregate.Sum = word.Sum
aggregate_word aggregate.Min = word.Min
aggregate_word aggregate.Max = word.Max

abbrev pub of_column : Aggregate → ℕ → Item
of_column aggregate.Count column = Count column
of_column aggregate.Sum column = Sum column
of_column aggregate.Min column = Min column
of_column aggregate.Max column = Max column
