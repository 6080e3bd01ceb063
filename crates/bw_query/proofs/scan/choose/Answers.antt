-- A file's program is used after files that are rejected.
use Rattle.bw_memory.specs.MemoryTable.{schema_of}
use Rattle.bw_query.specs.ProgramChoice.{IsRejected, texts_of}
use Rattle.bw_query.specs.declared.scan.Scan.TheVariants.{Program}
use Rattle.bw_query.proofs.CacheLemmas.{chosen_first, chosen_if_found, file_at, files_all}
use Rattle.bw_query.proofs.CacheLemmas.{files_more}
use Rattle.bw_query.proofs.scan.choose.Goals as goal

pub returns-in-Some-clause-chosen : goal.returns-in-Some-clause-chosen
returns-in-Some-clause-chosen c =
    let file = c.index-files-number.result in
    let found = rw c.schema-schema.ensures at c.in_ok-certified.ensures.found in
    let yield = rw c.in-Some.is at found in
    let chosen = rw c.deref.ensures.value at yield.1 in
    chosen_first (texts_of c.args.files.now) c.loop-number.number file.items (schema_of c.args.table.now).columns.items c.args.cond.now (Program c.in-Some.certified)
    (file_at c.args.files.now c.loop-number.number file c.loop-number-test.true c.index-files-number.is) c.loop-number.invariant chosen

pub loop-number-preserved : goal.loop-number-preserved
loop-number-preserved c =
    let file = c.index-files-number.result in
    let found = rw c.schema-schema.ensures at c.in_ok-certified.ensures.found in
    let yield = rw c.in-None.is at found in
    files_more (IsRejected (schema_of c.args.table.now).columns.items c.args.cond.now) c.args.files.now c.loop-number.number file c.loop-number-test.true c.index-files-number.is
    c.loop-number.invariant (rw c.deref.ensures.value at yield)

pub returns-clause-chosen : goal.returns-clause-chosen
returns-clause-chosen c =
    chosen_if_found (texts_of c.args.files.now) (schema_of c.args.table.now).columns.items c.args.cond.now c.plan_for_table.result
    (files_all (IsRejected (schema_of c.args.table.now).columns.items c.args.cond.now) c.args.files.now c.loop-number.number c.loop-number-test.false c.loop-number.invariant)
    c.plan_for_table.ensures.chosen
