use Rattle.std.proofs.Common.{◌≡◌, ◌++◌, ◌∷◌, [], map, length, ap, ◌∙◌, refl, arith}
use Rattle.std.proofs.lemmas.List.{map_push, length_push}
use Rattle.bw_model.specs.declared.column.Column.{Column}
use Rattle.bw_model.specs.Column.{names_of}
use Rattle.bw_model.specs.Name.{are_apart}
use Rattle.bw_model.specs.SchemaText.{column_shape}
use Rattle.bw_model.proofs.SchemaLemmas.{are_apart-push}
use Rattle.bw_model.proofs.ErrLemmas.{err_passed_on}
use Rattle.bw_file.proofs.HeaderLemmas.{columns_more, columns_stop, columns_begin, columns_read}
use Rattle.bw_file.proofs.HeaderLemmas.{names_in}
use Rattle.bw_file.proofs.ReadingLemmas.{stops_memory}
use Rattle.bw_file.proofs.header.read_columns.Goals as goal

pub loop-init : goal.loop-init
unfolding are_apart
loop-init g c = record {
  on = rw c.new-found.ensures.items (columns_begin c.args.version c.args.count _);
  failures = refl;
  room = omega arith;
  many = ap length c.new-found.ensures.items;
  apart = rw c.new-found.ensures.items refl;
}

pub returns-in_err-column-clause-reads : goal.returns-in_err-column-clause-reads
returns-in_err-column-clause-reads g c =
    rw (err_passed_on _ c.from_residual.ensures.1) (columns_stop c.args.version c.args.count c.loop.counter (map column_shape c.loop.found.items) _ _ _ _ _ c.loop-test.true (names_in _ _ c.deref.ensures.value) c.loop.invariant.on c.in_err-column.ensures.reads)

pub returns-in_err-push-clause-reads : goal.returns-in_err-push-clause-reads
returns-in_err-push-clause-reads g c =
    rw (err_passed_on _ c.from_residual-in_err-push.ensures.1) (stops_memory _ _ _ _ (columns_more c.args.version c.args.count c.loop.counter (map column_shape c.loop.found.items) (column_shape c.in_ok-column.column) _ _ _ _ c.loop-test.true (names_in _ _ c.deref.ensures.value) c.loop.invariant.on c.in_ok-column.ensures.reads))

pub loop-preserved : goal.loop-preserved
loop-preserved g c =
    let pushed : c.push.new.self.items ≡ c.loop.found.items ++ c.in_ok-column.column ∷ [] = c.in_ok-push.ensures.items in
    record {
      on = rw (pushed, map_push column_shape c.loop.found.items c.in_ok-column.column)
          (columns_more c.args.version c.args.count c.loop.counter (map column_shape c.loop.found.items) (column_shape c.in_ok-column.column) _ _ _ _ c.loop-test.true (names_in _ _ c.deref.ensures.value) c.loop.invariant.on c.in_ok-column.ensures.reads);
      failures = c.in_ok-column.ensures.reads.failures ∙ c.loop.invariant.failures;
      room = omega (arith, c.in_ok-column.ensures.advanced);
      many = rw (pushed, length_push c.loop.found.items c.in_ok-column.column) (omega arith);
      apart = rw (pushed, map_push (λ (column : Column). column.name) c.loop.found.items c.in_ok-column.column)
          (are_apart-push (names_of c.loop.found.items) c.in_ok-column.column.name c.loop.invariant.apart (rw c.deref.ensures.value at c.in_ok-column.ensures.apart));
    }

pub returns-clause-reads : goal.returns-clause-reads
returns-clause-reads g c = columns_read _ _ _ _ _ _ c.loop-test.false c.loop.invariant.on
