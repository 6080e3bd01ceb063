-- What was kept still serves, and so does one more.
use Rattle.std.proofs.Common.{◌∙◌, ℕ, List, [], ◌∷◌, ◌++◌, length, ap, arith, subst, sym}
use Rattle.std.specs.Prelude.{All}
use Rattle.std.proofs.lemmas.List.Elements.{All-push}
use Rattle.bw_memory.specs.MemoryTable.{schema_of}
use Rattle.bw_query.specs.declared.program_cache.CachedScan.{CachedScan}
use Rattle.bw_query.specs.ProgramChoice.{IsChosenAmong}
use Rattle.bw_query.specs.ProgramCache.{IsCached, files_of}
use Rattle.bw_query.proofs.CacheLemmas.{chosen_among_too, is_for_too}
use Rattle.bw_query.proofs.program_cache.ProgramCache.add.Goals as goal

pub returns-in_err-push-clause-serves : goal.returns-in_err-push-clause-serves
returns-in_err-push-clause-serves c =
    let columns = (schema_of c.args.table.now).columns.items in
    let P = IsCached (files_of c.drop_oldest.new.self) columns in
    let before = c.drop_oldest.ensures.serves columns c.requires.serves in
    subst (λ (those : List CachedScan). All P those) (sym c.in_err-push.ensures.items) before

pub returns-clause-serves : goal.returns-clause-serves
returns-clause-serves c =
    let columns = (schema_of c.args.table.now).columns.items in
    let cond = c.args.cond.now in
    let files = files_of c.drop_oldest.new.self in
    let P = IsCached files columns in
    let before = c.drop_oldest.ensures.serves columns c.requires.serves in
    let tree = sym c.in_ok-same.ensures.equal in
    let found = rw c.deref.ensures.value at c.in_ok-scan.ensures.chosen in
    let chosen = subst (λ (those : List (List ℕ)). IsChosenAmong those columns cond c.in_ok-scan.scan) (sym c.drop_oldest.ensures.files) found in
    let kept : CachedScan = record { cond = c.in_ok-same.same; scan = c.in_ok-scan.scan } in
    let is : P kept = (
      is_for_too columns cond kept.cond tree kept.scan c.in_ok-scan.ensures.certified,
      chosen_among_too c.certificates_serve_equal_conditions.ensures columns cond kept.cond tree files kept.scan chosen,
    ) in
    subst (λ (those : List CachedScan). All P those) (sym c.in_ok-push.ensures.items) (All-push P c.drop_oldest.new.self.kept.items kept before is)

pub returns-clause-kept : goal.returns-clause-kept
returns-clause-kept c =
    let kept : CachedScan = record { cond = c.in_ok-same.same; scan = c.in_ok-scan.scan } in
    record {
      fresh = c.requires.fresh;
      scan = kept;
      equal = c.in_ok-same.ensures.equal;
      is = c.in_ok-push.ensures.items ∙ ap (λ (scans : List CachedScan). scans ++ kept ∷ []) c.drop_oldest.ensures.kept;
      last = omega (arith, c.len-number.ensures, ap length c.drop_oldest.ensures.kept);
    }
