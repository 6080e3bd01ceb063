-- Out of memory before the groups; and the text of all rows.
use Rattle.std.proofs.Common.{◌≡◌, ◌∙◌, [], Err, List, Ok, Result, ap, arith, length, refl, subst, sym}
use Rattle.std.specs.Result.{IfOk}
use Rattle.bw_answer.specs.Progress.{IsOver}
use Rattle.bw_answer.specs.declared.answer.Answer.{Answer}
use Rattle.bw_model.proofs.ErrLemmas.{err_passed_on}
use Rattle.bw_model.specs.declared.column.Column.{Column}
use Rattle.bw_model.specs.declared.fault.Fault.{Fault}
use Rattle.bw_model.specs.declared.query.Query.{Query}
use Rattle.bw_model.specs.declared.schema.Schema.{Schema}
use Rattle.bw_model.specs.Column.{names_of}
use Rattle.bw_model.specs.Groups.{together}
use Rattle.bw_model.specs.Row.{Value}
use Rattle.bw_query.specs.Consumers.{IsTextCounted, IsTextFrom}
use Rattle.bw_query.specs.Scan.{IsFor}
use Rattle.bw_query.specs.Segments.{GivesText, IsTextOf}
use Rattle.bw_query.specs.declared.match_counter.MatchCounter.{MatchCounter}
use Rattle.bw_query.specs.declared.scan.Scan.{Scan}
use Rattle.bw_query.specs.declared.scan.Scan.TheVariants.{Program}
use Rattle.bw_query.specs.declared.served.TableText.{TableText}
use Rattle.bw_query.proofs.table_text.table_text.Goals as goal

-- what holds of a value, if there is one
ok_map : {T E : Type 0} {P Q : T → Type 0} (result : Result T E) → ((value : T) → P value → Q value) → IfOk result P → IfOk result Q
ok_map (Ok value) more holds = more value holds
ok_map (Err error) more holds = tt

-- the text of a query, from that of a result over no rows; and from that of a count of all rows
text_of : (columns : List Column) (query : Query) (scan : Scan) (All : List (List (List Value)) → Type 0) (start : Answer) → IsOver (names_of columns) query [] start
    → (found : TableText) → GivesText All (IsTextFrom start scan columns) found → IsTextOf columns query scan All found.text.items found.scanned
text_of columns query scan All start over found gave = record {
  groups = gave.groups;
  all = gave.all;
  counts = gave.gives.counts;
  is = gave.gives.is (names_of columns) query over;
}

text_counted : (columns : List Column) (query : Query) (All : List (List (List Value)) → Type 0) (start : MatchCounter) → IsOver (names_of columns) query [] start.answer → start.rows ≡ 0
    → start.matches ≡ 0 → (found : TableText) → GivesText All (IsTextCounted start columns) found → IsTextOf columns query (Program start.certified.now) All found.text.items found.scanned
text_counted columns query All start over rows matches found gave =
    let those = together gave.groups in
    record {
      groups = gave.groups;
      all = gave.all;
      counts = gave.gives.counts;
      is = gave.gives.is (names_of columns) query over those (omega (arith, rows)) (omega (arith, matches));
    }

pub consumed_text-requires-clause-fits : goal.consumed_text-requires-clause-fits
consumed_text-requires-clause-fits g c =
    let columns = (g.T.Segments.table c.args.segments.now).columns.items in
    let over = rw c.schema.ensures at c.in_ok-answer.ensures.over in
    record {
      program = subst (λ (query : Query). IsFor columns query.cond (Program c.in-Program.certified)) (sym over.0) (rw c.in-Program.is at c.requires.scan);
      alone = sym c.only_counts.ensures ∙ c.if-only_counts.true;
      fresh = c.in_ok-answer.ensures.fresh;
      matches = omega arith;
      few = record { segments = omega arith; loads = omega arith; skips = omega arith };
    }

pub consumed_text-requires-in_default-clause-fits : goal.consumed_text-requires-in_default-clause-fits
consumed_text-requires-in_default-clause-fits g c =
    let columns = (g.T.Segments.table c.args.segments.now).columns.items in
    let over = rw c.schema.ensures at c.in_ok-answer.ensures.over in
    record {
      scan = subst (λ (query : Query). IsFor columns query.cond c.args.scan.now) (sym over.0) c.requires.scan;
      width = c.in_ok-answer.ensures.width ∙ ap (λ (schema : Schema). length schema.columns.items) c.schema.ensures;
      few = record { segments = omega arith; loads = omega arith; skips = omega arith };
    }

pub returns-in_err-answer-clause-refused : goal.returns-in_err-answer-clause-refused
returns-in_err-answer-clause-refused g c =
    let failed = g.met.T.Segments.fails_among c.args.segments.now c.args.input.now [] c.args.segments.now c.args.input.now c.requires.fresh in
    rw (err_passed_on _ c.from_residual.ensures.1)
    (subst (λ (fault : Fault). g.T.Segments.failed c.args.segments.now c.args.input.now c.args.segments.now c.args.input.now fault) (sym c.in_err-answer.ensures.only_oom) failed)

pub returns-in-Program-clause-text : goal.returns-in-Program-clause-text
returns-in-Program-clause-text g c =
    let columns = (g.T.Segments.table c.args.segments.now).columns.items in
    let over = rw c.schema.ensures at c.in_ok-answer.ensures.over in
    let all = λ (groups : List (List (List Value))). g.T.Segments.ended c.args.segments.now c.args.input.now groups c.consumed_text.new.segments c.consumed_text.new.input in
    ok_map c.consumed_text.result (λ found gave. rw c.in-Program.is (text_counted columns c.args.query.now all _ over refl refl found gave)) c.consumed_text.ensures.text

pub returns-in_default-clause-text : goal.returns-in_default-clause-text
returns-in_default-clause-text g c =
    let columns = (g.T.Segments.table c.args.segments.now).columns.items in
    let over = rw c.schema.ensures at c.in_ok-answer.ensures.over in
    let all = λ (groups : List (List (List Value))). g.T.Segments.ended c.args.segments.now c.args.input.now groups c.consumed_text-in_default.new.segments c.consumed_text-in_default.new.input in
    ok_map c.consumed_text-in_default.result (text_of columns c.args.query.now c.args.scan.now all _ over) c.consumed_text-in_default.ensures.text
