use Rattle.std.proofs.Common.{◌∙◌, ap, ◌*◌, ltb, take_all, arith}
use Rattle.std.specs.List.{list_any}
use Rattle.bw_slices.specs.Slices.{slices_codes}
use Rattle.bw_slices.proofs.KeptLemmas.{length-slices_codes}
use Rattle.bw_slices.proofs.AboveLemmas.{any_more, any_of_all}
use Rattle.bw_slices.proofs.codes_above.any_above.Goals as goal

pub loop-word-preserved : goal.loop-word-preserved
loop-word-preserved c =
    any_more _ c.loop-word.word (slices_codes c.args.slices c.args.bytes.now) c.loop-word.any _ (length-slices_codes c.args.slices c.args.bytes.now) c.loop-word.auto.any.0 (omega arith) c.loop-word.invariant c.set_above-any.ensures

pub returns : goal.returns
returns c =
    let codes = slices_codes c.args.slices c.args.bytes.now in
    any_of_all 0 c.loop-word.any ∙ c.loop-word.invariant ∙ ap (list_any (ltb c.args.most)) (take_all (64 * c.loop-word.word) codes (omega (arith, length-slices_codes c.args.slices c.args.bytes.now)))
