-- The columns by what was seen of them are those over the rows.
use Rattle.std.proofs.Common.{refl}
use Rattle.bw_csv_calls.proofs.NarrowLemmas.{after_seen}
use Rattle.bw_csv_calls.proofs.schema.columns_after.Goals as goal

pub returns-clause-columns : goal.returns-clause-columns
returns-clause-columns c =
    rw (after_seen c.args.names.now _ _ _ refl c.in_ok-seen.ensures.seen) (rw c.deref.ensures.value at c.columns_from_stats.ensures.columns)
