-- One more scan is for another condition, and then all are.
use Rattle.std.proofs.Common.{◌≡◌, ◌∙◌, ◌<◌, length, sym, subst, take, get_or, arith}
use Rattle.std.specs.Prelude.{All}
use Rattle.std.proofs.lemmas.List.{take_all, take_more}
use Rattle.std.proofs.lemmas.List.Elements.{All-push}
use Rattle.bw_model.specs.CondTree.{tree_of}
use Rattle.bw_query.specs.declared.program_cache.CachedScan.{CachedScan}
use Rattle.bw_query.proofs.program_cache.ProgramCache.find.Goals as goal

pub loop-number-preserved : goal.loop-number-preserved
loop-number-preserved c =
    let kept = c.args.self.now.kept.items in
    let number = c.loop-number.number in
    let x = c.index.result.now in
    let within : number < length kept = omega (arith, c.loop-number-test.true, c.len-number-end.ensures) in
    let P : CachedScan → Type 0 = λ scan. tree_of c.args.cond.now ≡ tree_of scan.cond → ⊥ in
    let apart : P x = λ tree. cc (sym (c.is_same.ensures.complete tree) ∙ c.if-is_same.false) in
    subst (All P) (sym (take_more kept number x within)) (All-push P (take number kept) (get_or kept number x) c.loop-number.invariant (subst P c.index.ensures apart))

pub returns-clause-none : goal.returns-clause-none
returns-clause-none c = λ is.
    let kept = c.args.self.now.kept.items in
    let P : CachedScan → Type 0 = λ scan. tree_of c.args.cond.now ≡ tree_of scan.cond → ⊥ in
    subst (All P) (take_all c.loop-number.number kept (omega (arith, c.loop-number-test.false, c.len-number-end.ensures))) c.loop-number.invariant
