-- A sort moves numbers, and of equal ones one is left.
use Rattle.std.proofs.Common.{int_eq}
use Rattle.std.proofs.lemmas.List.Filters.{dedup_is}
use Rattle.bw_rowwise.proofs.NumberLemmas.{once_ascending, sorted_same}
use Rattle.bw_rowwise.proofs.numbers.sorted_once.Goals as goal

pub returns-clause-ascending : goal.returns-clause-ascending
returns-clause-ascending c = once_ascending _ _ c.sort_unstable.ensures.sorted (dedup_is int_eq _ _ c.dedup.ensures.filtered)

pub returns-clause-same : goal.returns-clause-same
returns-clause-same c = λ x. sorted_same x c.args.numbers.items _ _ c.sort_unstable.ensures.permutation (dedup_is int_eq _ _ c.dedup.ensures.filtered)
