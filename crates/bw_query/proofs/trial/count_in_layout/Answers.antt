-- What is counted in each segment is added to that of the segments before it.
use Rattle.std.proofs.Common.{◌≡◌, ◌∙◌, refl, ap, subst, arith, ℕ, List}
use Rattle.bw_model.specs.declared.column.Column.{Column}
use Rattle.bw_model.specs.Row.{Value}
use Rattle.bw_segment.specs.Meaning.{Meaning}
use Rattle.bw_memory.specs.StoredSegments.{stored_groups}
use Rattle.bw_memory.specs.MemoryTable.{schema_of, meaning_numbered}
use Rattle.bw_memory.proofs.StoredSegmentLemmas.{groups_more}
use Rattle.bw_memory.proofs.ReadLemmas.{no_groups}
use Rattle.bw_query.proofs.TableLemmas.{one_more}
use Rattle.bw_query.proofs.trial.count_in_layout.Goals as goal

pub loop-number-init : goal.loop-number-init
loop-number-init g c =
    let table = c.args.table.now in
    let none = no_groups table.layout (schema_of table).columns.items table.rows table.columns.items in
    record { sum = rw none refl; bound = omega arith; fits = c.requires.fits; same = refl }

pub loop-number-preserved : goal.loop-number-preserved
loop-number-preserved g c =
    let table = c.args.table.now in
    let columns = (schema_of table).columns.items in
    let number = c.loop-number.number in
    let rows = (meaning_numbered table number).rows in
    let groups = stored_groups table.layout columns table.rows number table.columns.items in
    let more = groups_more table.layout columns table.rows number table.columns.items in
    let counted = subst (λ (m : Meaning). c.count_in.result ≡ g.C.TrialCount.counts c.loop-number.counter m.columns m.rows) c.in_ok-segment.ensures.means c.count_in.ensures.count
    ∙ ap (λ (counts : List Column → List (List Value) → ℕ). counts columns rows) c.loop-number.invariant.same in
    record {
      sum = rw more (one_more (g.C.TrialCount.counts c.args.counter.now columns) groups rows _ _ c.loop-number.invariant.sum counted);
      bound = omega (arith, c.loop-number.invariant.bound, c.count_in.ensures.bounded);
      fits = c.count_in.ensures.fits columns c.loop-number.invariant.fits;
      same = c.count_in.ensures.same ∙ c.loop-number.invariant.same;
    }
