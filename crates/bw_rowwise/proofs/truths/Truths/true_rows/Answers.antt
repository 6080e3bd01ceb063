-- The lanes of the rows that are TRUE, and zeros.
use Rattle.std.proofs.Common.{◌∙◌, ap, ◌-◌, ◌<◌, ◌&&◌, false, get_or, arith, inl, inr}
use Rattle.std.proofs.lemmas.Bool.{cases_lt}
use Rattle.std.proofs.lemmas.List.{get_or_past}
use Rattle.std.proofs.Math.Bool.{and-true, and-false}
use Rattle.bw_model.specs.Groups.{group_size}
use Rattle.bw_lanes.specs.Lanes.{lanes_of_words}
use Rattle.bw_rowwise.proofs.LaneLemmas.{first_lane, last_lane, marked}
use Rattle.bw_rowwise.proofs.truths.Truths.true_rows.Goals as goal

pub returns-clause-rows : goal.returns-clause-rows
unfolding group_size
returns-clause-rows c = λ f rows keeps a many each.
    let count = c.args.rows in
    let lanes = lanes_of_words c.args.self.now.yes in
    marked (lanes_of_words c.both_lanes.result) rows keeps (record {
      all = c.both_lanes.ensures.long;
      within_limit = omega (arith, many, c.requires);
      kept = λ lane below.
          let within : lane < 512 = omega (arith, many, c.requires, below) in
          c.both_lanes.ensures.each lane within
          ∙ ap (λ b. get_or lanes lane false && b) (ap (λ l. get_or l lane false) c.mask.ensures ∙ first_lane count (512 - count) lane (omega (arith, many, below)))
          ∙ and-true (get_or lanes lane false) ∙ a.yes lane within ∙ each lane (omega (arith, many, below));
      past = λ lane above within.
          c.both_lanes.ensures.each lane within
          ∙ ap (λ b. get_or lanes lane false && b) (ap (λ l. get_or l lane false) c.mask.ensures ∙ last_lane count (512 - count) lane (omega (arith, many, above)))
          ∙ and-false (get_or lanes lane false);
    })

pub returns-clause-within : goal.returns-clause-within
returns-clause-within c = λ lane above.
    let count = c.args.rows in
    let lanes = lanes_of_words c.args.self.now.yes in
    elim (cases_lt lane 512) [
      | inl within ↦
          c.both_lanes.ensures.each lane within
          ∙ ap (λ b. get_or lanes lane false && b) (ap (λ l. get_or l lane false) c.mask.ensures ∙ last_lane count (512 - count) lane above)
          ∙ and-false (get_or lanes lane false)
      | inr beyond ↦ get_or_past (lanes_of_words c.both_lanes.result) lane false (omega (arith, beyond, c.both_lanes.ensures.long))
    ]
