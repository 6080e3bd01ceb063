use Rattle.std.proofs.Common.{◌≡◌, ◌∙◌, sym, ap, ◌+◌, ◌-◌, ◌/◌, ◌%◌, ◌^◌, ltb, map, not, arith}
use Rattle.bw_segment.specs.Selected.{is_greatest}
use Rattle.bw_planes.specs.Planes.{planes_codes}
use Rattle.bw_planes.proofs.CompareLemmas.{negated}
use Rattle.bw_planes.proofs.NearLemmas.{is_near}
use Rattle.bw_planes.proofs.planes.near.Goals as goal

pub returns-in-Greatest : goal.returns-in-Greatest
returns-in-Greatest c =
    c.at_least.ensures ∙ ap (λ greatest. map (is_near greatest (c.args.width - c.args.digits) c.args.digits c.args.other) (planes_codes c.args.width c.args.bytes.now)) (sym (ap is_greatest c.in-Greatest.is))

pub returns-in-Least : goal.returns-in-Least
returns-in-Least c =
    let codes = planes_codes c.args.width c.args.bytes.now in
    let digits = c.args.digits in
    let low = c.args.width - digits in
    let one : c.saturating_sub.result ≡ c.args.other - 1 = omega (arith, c.saturating_sub.ensures) in
    c.not.ensures ∙ ap (map not) c.at_least-in-Least.ensures ∙ ap (λ k. map not (map (λ code. not (ltb (code / 2 ^ low % 2 ^ digits) (k / 2 ^ low + 1))) codes)) one
    ∙ negated (λ code. ltb (code / 2 ^ low % 2 ^ digits) ((c.args.other - 1) / 2 ^ low + 1)) codes
    ∙ ap (λ greatest. map (is_near greatest low digits c.args.other) codes) (sym (ap is_greatest c.in-Least.is))
