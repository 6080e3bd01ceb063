-- What is kept for a condition serves each of the same tree.
use Rattle.std.proofs.Common.{get_or, sym}
use Rattle.std.proofs.lemmas.List.Elements.{All-get_or}
use Rattle.bw_memory.specs.MemoryTable.{schema_of}
use Rattle.bw_query.specs.ProgramCache.{IsCached, files_of}
use Rattle.bw_query.proofs.CacheLemmas.{chosen_among_too, is_for_too}
use Rattle.bw_query.proofs.program_cache.ProgramCache.find_or_add.Goals as goal

pub returns-in-Some-clause-found : goal.returns-in-Some-clause-found
returns-in-Some-clause-found c =
    let programs = c.args.self.now in
    let columns = (schema_of c.args.table.now).columns.items in
    let cond = c.args.cond.now in
    let is = c.in-Some.ensures.some in (
      is.0,
      λ none.
          let at = get_or programs.kept.items c.in-Some.number none in
          let kept = All-get_or (IsCached (files_of programs) columns) programs.kept.items c.in-Some.number none is.0 c.requires.serves in
          let tree = sym (is.1 none) in (
            is_for_too columns at.cond cond tree at.scan kept.0,
            chosen_among_too c.certificates_serve_equal_conditions.ensures columns at.cond cond tree (files_of programs) at.scan kept.1,
          ),
    )
