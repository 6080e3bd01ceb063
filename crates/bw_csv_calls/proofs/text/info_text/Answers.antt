-- The lines after the schema's are its comments.
use Rattle.std.proofs.Common.{◌≡◌, ◌∙◌, ◌+◌, ◌/◌, ◌<◌, ◌^◌, ap, arith, ℕ}
use Rattle.bw_csv_calls.specs.Info.{layout_word}
use Rattle.bw_csv_calls.proofs.FactLemmas.{AreSmall, spelled_by, told_by}
use Rattle.bw_csv_calls.proofs.text.info_text.Goals as goal

pub returns-clause-text : goal.returns-clause-text
returns-clause-text c =
    let facts = c.args.facts in
    let rows : c.from-rows.result ≡ facts.rows = omega (arith, c.from-rows.ensures) in
    told_by facts.version facts.layout c.args.schema.now facts.rows facts.size _ _ _ _ _ _ _ _ _ _ _
    c.in_ok-put_fact.ensures c.in_ok-put_fact-2.ensures c.in_ok-put_fact-3.ensures c.in_ok-put_fact-4.ensures c.in_ok-put_fact-5.ensures c.in_ok-text.ensures.text
    c.layout_word.ensures rows (ap (λ (n : ℕ). (n + 511) / 512) rows) (omega (arith, c.from-version.ensures)) (omega arith)

pub returns-clause-spelled : goal.returns-clause-spelled
returns-clause-spelled c =
    let facts = c.args.facts in
    let small : AreSmall facts.version facts.rows facts.size = record { told = omega arith; within_limit = omega arith; bounded = omega arith } in
    spelled_by facts.version facts.layout c.args.schema.now facts.rows facts.size c.in_ok-text.text.items _ small c.in_ok-text.ensures.text c.in_ok-text.ensures.commented (returns-clause-text c)
