-- What is said of all scans is said of those after the first.
use Rattle.std.proofs.Common.{List, subst, sym}
use Rattle.std.specs.Prelude.{All}
use Rattle.std.proofs.lemmas.List.Elements.{All-drop}
use Rattle.bw_query.specs.declared.program_cache.CachedScan.{CachedScan}
use Rattle.bw_query.specs.ProgramCache.{IsCached, files_of}
use Rattle.bw_query.proofs.program_cache.ProgramCache.drop_oldest.Goals as goal

pub returns-then-len-ge-MAX_SCANS-clause-serves : goal.returns-then-len-ge-MAX_SCANS-clause-serves
returns-then-len-ge-MAX_SCANS-clause-serves c = λ columns serves.
    let kept = c.args.self.now.kept.items in
    let P = IsCached (files_of c.args.self.now) columns in
    subst (λ (those : List CachedScan). All P those) (sym c.remove-oldest.ensures.by_index.2) (All-drop P 1 kept serves)
