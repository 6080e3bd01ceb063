-- A group more was counted and scanned.
use Rattle.std.proofs.Common.{◌≡◌, ◌∙◌, ◌+◌, ◌++◌, ◌∷◌, [], ℕ, List, ap, arith, length, length-append}
use Rattle.std.proofs.lemmas.List.Elements.{filter-append}
use Rattle.bw_cert.proofs.CountLemmas.{matches_among}
use Rattle.bw_file.proofs.MemoryAnswers.{together_more}
use Rattle.bw_model.specs.Cond.{is_match}
use Rattle.bw_model.specs.Groups.{together}
use Rattle.bw_model.specs.Row.{Value}
use Rattle.bw_model.specs.Selection.{matching_rows}
use Rattle.bw_model.specs.declared.cond.Cond.{Cond}
use Rattle.bw_answer.specs.Progress.{query_in}
use Rattle.bw_answer.specs.declared.answer.Answer.{Answer}
use Rattle.bw_query.specs.declared.scan.Scan.TheVariants.{Program}
use Rattle.bw_query.proofs.ScannedLemmas.{few_more, scanned_more}
use Rattle.bw_query.proofs.match_counter.MatchCounterSegmentConsumer.take.Goals as goal

-- the rows of groups and of one more, and those that match, after some that were counted before
rows_counted : (groups : List (List (List Value))) (group : List (List Value)) (before rows more : ℕ) → before + length (together groups) ≡ rows → more ≡ length group
    → before + length (together (groups ++ group ∷ [])) ≡ rows + more
rows_counted groups group before rows more is next =
    let all = ap length (together_more groups group) ∙ length-append (together groups) group in
    omega (arith, all, is, next)

matches_counted : (cond : Cond) (groups : List (List (List Value))) (group : List (List Value)) (before matches more : ℕ) → before + length (matching_rows cond (together groups)) ≡ matches
    → more ≡ length (matching_rows cond group) → before + length (matching_rows cond (together (groups ++ group ∷ []))) ≡ matches + more
matches_counted cond groups group before matches more is next =
    let apart = ap (λ (rows : List (List Value)). length (matching_rows cond rows)) (together_more groups group)
    ∙ ap length (filter-append (is_match cond) (together groups) group) ∙ length-append (matching_rows cond (together groups)) (matching_rows cond group) in
    omega (arith, apart, is, next)

pub overflow_add-self-2 : goal.overflow_add-self-2
overflow_add-self-2 g c =
    let group = (g.S.Segment.meaning c.args.segment.now).rows in
    omega (arith, c.requires.fits.matches, c.requires.capacity, c.count_in-found.ensures.matches, matches_among (query_in c.args.self.now.answer).cond group)

pub returns-clause-consumes : goal.returns-clause-consumes
returns-clause-consumes g c =
    let self = c.args.self.now in
    let columns = (g.S.Segment.meaning c.args.segment.now).columns in
    let group = (g.S.Segment.meaning c.args.segment.now).rows in
    let some = (g.met.S.Segment.is_group c.args.segment.now).nonempty in
    let fits = c.requires.fits in
    let found = c.count_in-found.ensures in
    let plus = c.plus-self.ensures in
    record {
      some = some;
      fits = record {
        program = fits.program;
        alone = fits.alone;
        fresh = fits.fresh;
        matches = omega (arith, fits.matches, found.matches, c.rows_in.ensures.count, matches_among (query_in self.answer).cond group);
        few = few_more self.rows c.rows_in.result c.count_in-found.result.1 self.scanned c.plus-self.result (omega (arith, some, c.rows_in.ensures.count)) fits.few found.run.bounded plus.segments plus.loads
            plus.skips;
      };
      rows = ap (λ (more : ℕ). self.rows + more) c.rows_in.ensures.count;
      over = λ start groups led. record {
        program = led.program;
        answer = led.answer;
        rows = rows_counted groups group start.rows self.rows c.rows_in.result led.rows c.rows_in.ensures.count;
        matches = matches_counted (query_in start.answer).cond groups group start.matches self.matches c.count_in-found.result.0 led.matches (found.matches ∙ ap (λ (answer : Answer). length (matching_rows (query_in answer).cond group)) led.answer);
        counts = scanned_more columns (Program start.certified.now) (Program self.certified.now) groups group c.count_in-found.result.1 self.scanned c.plus-self.result (ap Program led.program) led.counts found.run plus.segments plus.loads plus.skips;
      };
    }
