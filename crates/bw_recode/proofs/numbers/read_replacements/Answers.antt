-- Each turn reads one more column's lines.
use Rattle.std.proofs.Common.{◌≡◌, ◌∙◌, ◌∷◌, [], ◌++◌, length, sym, arith, eqb-true}
use Rattle.std.specs.Option.{option_map}
use Rattle.std.proofs.lemmas.List.{drop_all, map-append, length-drop}
use Rattle.bw_model.proofs.ErrLemmas.{err_passed_on}
use Rattle.bw_csv.proofs.FieldLemmas.{drop-column}
use Rattle.bw_recode.specs.Recode.{replacements_in}
use Rattle.bw_recode.proofs.LineLemmas.{from-next, from-fault, from-missing, from-more, from-line, from-end}
use Rattle.bw_recode.proofs.LineLemmas.{some_bytes}
use Rattle.bw_recode.proofs.numbers.read_replacements.Goals as goal

pub returns-then-i-news : goal.returns-then-i-news
returns-then-i-news c = λ kept.
    let old = drop-column _ _ _ c.loop-i-test.true c.index-olds-i.is in
    let none = drop_all c.loop-i.i c.args.news.now (omega (arith, c.if-i-news.true)) in
    rw (c.at_line.ensures, c.number.ensures) (c.loop-i.invariant.so_far ∙ from-missing _ _ _ _ _ _ _ old none)

pub returns-in_err-read_replacement : goal.returns-in_err-read_replacement
returns-in_err-read_replacement c =
    let old = drop-column _ _ _ c.loop-i-test.true c.index-olds-i.is in
    let new = drop-column c.args.news.now c.loop-i.i _ (omega (arith, c.if-i-news.false)) c.index-news-i.is in
    rw (err_passed_on _ c.from_residual.ensures.1) (λ kept. c.loop-i.invariant.so_far ∙ from-fault _ _ _ _ _ _ _ _ _ _ old new (c.in_err-read_replacement.ensures.read kept))

pub loop-i-preserved : goal.loop-i-preserved
loop-i-preserved c =
    let old = drop-column _ _ _ c.loop-i-test.true c.index-olds-i.is in
    let new = drop-column c.args.news.now c.loop-i.i _ (omega (arith, c.if-i-news.false)) c.index-news-i.is in
    let more : replacements_in (c.loop-i.replacements.items ++ c.in_ok-read_replacement.field-0 ∷ []) ≡ replacements_in c.loop-i.replacements.items ++ replacements_in (c.in_ok-read_replacement.field-0 ∷ []) =
    map-append (λ r. option_map (λ values. values.items) r) c.loop-i.replacements.items (c.in_ok-read_replacement.field-0 ∷ []) in
    record {
      so_far = rw (c.in_ok-push.ensures.items, more, c.in_ok-read_replacement.ensures.rest.0, c.in_ok-read_replacement.ensures.rest.1)
          (c.loop-i.invariant.so_far ∙ from-next _ _ _ _ _ _ _ _ _ _ old new c.in_ok-read_replacement.ensures.read);
      within = omega (arith, c.if-i-news.false);
      far = omega (arith, c.loop-i-test.true);
    }

pub returns-then-olds-news : goal.returns-then-olds-news
returns-then-olds-news c = λ kept.
    let none = drop_all c.loop-i.i c.args.olds.now c.loop-i-test.false in
    let left = length-drop c.loop-i.i c.args.news.now in
    rw (c.at_line-then-olds-news.ensures, c.number-then-olds-news.ensures)
    (c.loop-i.invariant.so_far ∙ from-more _ _ _ _ _ none (omega (arith, left, c.if-olds-news.true, c.loop-i.invariant.far, c.loop-i-test.false)))

pub returns-then-not-is_empty : goal.returns-then-not-is_empty
returns-then-not-is_empty c = λ kept.
    let olds = drop_all c.loop-i.i c.args.olds.now c.loop-i-test.false in
    let news = drop_all c.loop-i.i c.args.news.now (omega (arith, c.if-olds-news.false, c.loop-i-test.false)) in
    rw (c.at_line-then-not-is_empty.ensures, c.number-then-not-is_empty.ensures)
    (c.loop-i.invariant.so_far ∙ from-line _ _ _ c.loop-i.lines.text _ olds news (some_bytes c.loop-i.lines.text (rw c.rest.ensures at (sym c.is_empty.ensures ∙ c.if-not-is_empty.true))))

pub returns : goal.returns
returns c =
    let olds = drop_all c.loop-i.i c.args.olds.now c.loop-i-test.false in
    let news = drop_all c.loop-i.i c.args.news.now (omega (arith, c.if-olds-news.false, c.loop-i-test.false)) in
    c.loop-i.invariant.so_far ∙ from-end _ _ _ c.loop-i.lines.text _ olds news (eqb-true (length c.loop-i.lines.text) 0 (rw c.rest.ensures at (sym c.is_empty.ensures ∙ c.if-not-is_empty.false)))
