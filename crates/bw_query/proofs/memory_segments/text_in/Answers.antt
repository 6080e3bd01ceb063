-- The text of a count, or of what a scan finds.
use Rattle.std.proofs.Common.{◌≡◌, ◌∙◌, sym, true, false, ap}
use Rattle.std.specs.List.{list_all}
use Rattle.bw_model.specs.declared.query.Query.{Query}
use Rattle.bw_answer.specs.Answer.{is_count_all}
use Rattle.bw_query.specs.declared.scan.Scan.{Scan}
use Rattle.bw_query.specs.Served.{finder_of}
use Rattle.bw_query.specs.Settled.{only_counts}
use Rattle.bw_query.proofs.StoreLemmas.{text_over}
use Rattle.bw_query.proofs.memory_segments.text_in.Goals.{in_default-via-in-Program+else-only_counts, in_default-via-in_default}
use Rattle.bw_query.proofs.memory_segments.text_in.Goals as goal

pub returns-in-Program-clause-text : goal.returns-in-Program-clause-text
returns-in-Program-clause-text g c =
    let over = rw c.schema.ensures at c.in_ok-answer.ensures.over in
    let counts : true ≡ only_counts c.args.query.now (finder_of c.args.scan.now) =
    sym c.if-only_counts.true ∙ c.only_counts.ensures ∙ ap (λ (query : Query). list_all is_count_all query.items.items) over.0 ∙ sym (ap (λ (scan : Scan). only_counts c.args.query.now (finder_of scan)) c.in-Program.is) in
    text_over c.args.table.now c.args.verdicts.now c.args.query.now c.args.scan.now true counts c.in_ok-answer.answer over c.counted_text.result (rw c.in-Program.is c.counted_text.ensures.text)

pub returns-in_default-clause-text : goal.returns-in_default-clause-text
returns-in_default-clause-text g c =
    let over = rw c.schema.ensures at c.in_ok-answer.ensures.over in
    let counts : false ≡ only_counts c.args.query.now (finder_of c.args.scan.now) =
    elim c.in_default.branch [
      | in_default-via-in-Program+else-only_counts w ↦
          sym w.if-only_counts.false ∙ w.only_counts.ensures ∙ ap (λ (query : Query). list_all is_count_all query.items.items) over.0 ∙ sym (ap (λ (scan : Scan). only_counts c.args.query.now (finder_of scan)) w.in-Program.is)
      | in_default-via-in_default w ↦ sym (ap (λ (scan : Scan). only_counts c.args.query.now (finder_of scan)) w.in_default.is)
    ] in
    text_over c.args.table.now c.args.verdicts.now c.args.query.now c.args.scan.now false counts c.in_ok-answer.answer over c.found_text.result c.found_text.ensures.text
