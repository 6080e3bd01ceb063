use Rattle.std.proofs.Common.{◌≡◌, drop, length, length-drop, arith, rules, subst, sym, take, ◌-◌}
use Rattle.std.proofs.lemmas.List.{take_all}
use Rattle.csv.specs.declared.parser.State.TheVariants.{AfterCr}
use Rattle.bw_encode.specs.Cut.{StartsAt}
use Rattle.bw_encode.proofs.CutLemmas.{after_return}
use Rattle.bw_encode.proofs.record_fields.after_line_feed.Goals as goal

pub returns-in-10 : goal.returns-in-10
returns-in-10 c =
    let whole : take (length c.args.text.now - 1) (drop 1 c.args.text.now) ≡ drop 1 c.args.text.now = take_all (length c.args.text.now - 1) (drop 1 c.args.text.now) (omega (arith, length-drop 1 c.args.text.now)) in
    subst (λ rest. StartsAt AfterCr c.args.text.now rest) (sym whole) (after_return c.args.text.now (search rules) (search rules))
