-- No segment came so far; and what is known once all have come.
use Rattle.std.proofs.Common.{[], refl, subst, arith}
use Rattle.bw_memory.specs.Columnar.{is_wanted}
use Rattle.bw_memory.specs.Windows.{HasGroups}
use Rattle.bw_memory.proofs.WindowLemmas.{nothing_read}
use Rattle.bw_query.proofs.columnar_segments.text_in.Goals as goal

pub table_text-requires-clause-fresh : goal.table_text-requires-clause-fresh
table_text-requires-clause-fresh g c =
    let known = (g.D.RandomAccess.state c.args.device.now).known in
    let columnar = c.args.columnar.now in
    let read = is_wanted c.args.wanted.now in
    record {
      read = record { known = refl; failures = refl };
      fits = c.requires.counter_fits;
      columnar = refl;
      wanted = refl;
      window = c.in_ok-new.ensures.window known;
      groups = subst (λ n. HasGroups known columnar read n []) (omega (arith, c.in_ok-new.ensures.before)) (nothing_read known columnar read);
    }
