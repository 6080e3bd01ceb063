-- Out of memory before the segments; and the table of all of them.
use Rattle.std.proofs.Common.{◌∙◌, [], refl, ap, arith}
use Rattle.bw_model.specs.declared.schema.Schema.{Schema}
use Rattle.bw_model.proofs.ErrLemmas.{err_passed_on}
use Rattle.std.proofs.lemmas.List.{with_items_is}
use Rattle.bw_file.proofs.MemoryAnswers.{memory_answers}
use Rattle.bw_memory.proofs.ReadLemmas.{came_whole, cut_made, segments_made}
use Rattle.bw_memory.proofs.reading.read_table.Goals as goal

pub returns-in_err-placement-clause-refused : goal.returns-in_err-placement-clause-refused
returns-in_err-placement-clause-refused g c =
    rw (err_passed_on _ c.from_residual.ensures.1) (λ start read. memory_answers start _ _ c.in_err-placement.field-0.0 (c.bytes_were_taken.ensures start _ c.args.reader.now [] read).0 refl c.in_err-placement.ensures.only_oom)

pub returns-in_err-columns-clause-refused : goal.returns-in_err-columns-clause-refused
returns-in_err-columns-clause-refused g c =
    rw (err_passed_on _ c.from_residual-in_err-columns.ensures.1) (λ start read. memory_answers start _ _ c.in_err-columns.field-0.0 (c.bytes_were_taken.ensures start _ c.args.reader.now [] read).0 refl c.in_err-columns.ensures.only_oom)

pub invariant_of-result : goal.invariant_of-result
invariant_of-result g c =
    let all = c.in_ok-segments.ensures.kept in
    let made = c.in_ok-placement.ensures in
    let schema = c.in_ok-placement.placement.value.schema in
    let columns = made.columns ∙ ap (λ (schema : Schema). schema.columns.items) c.schema.ensures in
    let name = made.name ∙ ap (λ (schema : Schema). schema.name) c.schema.ensures in
    let items = with_items_is c.in_ok-columns.columns c.read_segments.new.columns (omega (arith, c.read_segments.auto.columns, c.deref_mut.ensures.len)) in
    let began = c.requires.began in
    record {
      placed = made.placed;
      within_limit = omega (arith, c.given.ensures, all.within_limit);
      kept = segments_made c.args.reader.now c.layout-layout.result schema _ c.given.result c.in_ok-segments.segments _ _ c.layout-layout.ensures name columns c.given.ensures items all.segments;
      cut = cut_made c.args.reader.now c.layout-layout.result schema _ c.given.result c.in_ok-segments.segments _ _ c.layout-layout.ensures name columns c.given.ensures items _ _ all began.0 began.1;
    }

pub returns-clause-table : goal.returns-clause-table
returns-clause-table g c = λ start so_far.
    let all = c.in_ok-segments.ensures.kept in
    let made = c.in_ok-placement.ensures in
    let schema = c.in_ok-placement.placement.value.schema in
    let columns = made.columns ∙ ap (λ (schema : Schema). schema.columns.items) c.schema.ensures in
    let name = made.name ∙ ap (λ (schema : Schema). schema.name) c.schema.ensures in
    let items = with_items_is c.in_ok-columns.columns c.read_segments.new.columns (omega (arith, c.read_segments.auto.columns, c.deref_mut.ensures.len)) in
    came_whole c.args.reader.now c.layout-layout.result schema _ c.given.result c.in_ok-segments.segments _ _ c.layout-layout.ensures name columns c.given.ensures items _ _ all start so_far
