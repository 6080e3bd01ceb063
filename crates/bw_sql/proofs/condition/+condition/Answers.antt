-- Brackets and NOT read one level deeper; each part goes after those before it.
use Rattle.std.proofs.Common.{◌≡◌, ℕ, suc, ◌-◌, ◌<◌, [], ◌∷◌, map, Err, refl, sym, ◌∙◌, ap, arith}
use Rattle.std.proofs.lemmas.List.{map-append}
use Rattle.bw_sql.specs.declared.reader.Refusal.TheVariants.{Nesting}
use Rattle.bw_model.specs.CondTree.{tree_of}
use Rattle.bw_model.specs.declared.schema.Schema.{Schema}
use Rattle.bw_model.proofs.ErrLemmas.{err_passed_on}
use Rattle.bw_sql.specs.Reading.{factor_in, nested_readers, primary_in}
use Rattle.bw_sql.proofs.Repeats.{ends, halts, steps, halts_too, length-lexemes}
use Rattle.bw_sql.proofs.condition.+condition.Goals as goal

pub more_parts-returns-in_err-another-clause-read : goal.more_parts-returns-in_err-another-clause-read
more_parts-returns-in_err-another-clause-read t c =
    rw (err_passed_on _ c.from_residual.ensures.1) (halts c.loop-next.invariant.read c.in_err-another.field-0.0 (rw c.keyword.ensures at (sym c.in-Some.ensures.is))
    c.in_err-another.ensures.read (omega (arith, c.in-Some.ensures.consumes_input)))

pub more_parts-loop-next-preserved : goal.more_parts-loop-next-preserved
more_parts-loop-next-preserved t c = record {
  shorter = omega (arith, c.in-Some.ensures.consumes_input, c.in_ok-another.ensures.consumes_input);
  read = steps c.loop-next.invariant.read (rw c.keyword.ensures at (sym c.in-Some.ensures.is)) c.in_ok-another.ensures.read
      (ap (map tree_of) c.in_ok-push.ensures.items ∙ map-append tree_of c.loop-next.parts.items (c.in_ok-another.another ∷ []))
      (omega (arith, c.in-Some.ensures.consumes_input, c.in_ok-another.ensures.consumes_input));
}

pub more_parts-returns-clause-read : goal.more_parts-returns-clause-read
more_parts-returns-clause-read t c =
    ends c.loop-next.invariant.read (rw c.keyword.ensures at (sym c.in_default.ensures.is))

pub factor-returns-then-levels-eq0-clause-read : goal.factor-returns-then-levels-eq0-clause-read
unfolding factor_in nested_readers
factor-returns-then-levels-eq0-clause-read t c =
    rw (c.at.ensures, ← c.in-Some.ensures.is, c.if-levels-eq0.true)
    (ap (λ n. Err (record { why = Nesting; left = n })) (length-lexemes c.args.tokens.now))

-- one level deeper
nested_deeper : (schema : Schema) (n : ℕ) → 0 < n → nested_readers schema n ≡ nested_readers schema (suc (n - 1))
nested_deeper schema n h = ap (nested_readers schema) (omega arith)

pub factor-returns-in_err-cond-clause-read : goal.factor-returns-in_err-cond-clause-read
unfolding factor_in nested_readers
factor-returns-in_err-cond-clause-read t c =
    rw (err_passed_on _ c.from_residual.ensures.1, ← c.in-Some.ensures.is, nested_deeper c.args.schema.now c.args.levels (omega arith))
    (halts_too c.in_err-cond.field-0.0 _ _ c.in_err-cond.ensures.read (λ halt f. rw f refl))

pub factor-returns-clause-read : goal.factor-returns-clause-read
unfolding factor_in nested_readers
factor-returns-clause-read t c =
    let deeper = nested_deeper c.args.schema.now c.args.levels (omega arith) in
    rw (← c.in-Some.ensures.is, deeper, c.in_ok-cond.ensures.read, c.in_ok-negation.ensures) refl

pub primary-returns-then-levels-eq0-clause-read : goal.primary-returns-then-levels-eq0-clause-read
unfolding primary_in nested_readers
primary-returns-then-levels-eq0-clause-read t c =
    rw (c.at.ensures, ← c.in-Some.ensures.is, c.if-levels-eq0.true)
    (ap (λ n. Err (record { why = Nesting; left = n })) (length-lexemes c.args.tokens.now))

pub primary-returns-in_err-cond-clause-read : goal.primary-returns-in_err-cond-clause-read
unfolding primary_in nested_readers
primary-returns-in_err-cond-clause-read t c =
    rw (err_passed_on _ c.from_residual.ensures.1, ← c.in-Some.ensures.is, nested_deeper c.args.schema.now c.args.levels (omega arith))
    (halts_too c.in_err-cond.field-0.0 _ _ c.in_err-cond.ensures.read (λ halt f. rw f refl))

pub primary-returns-in_err-rest-clause-read : goal.primary-returns-in_err-rest-clause-read
unfolding primary_in nested_readers
primary-returns-in_err-rest-clause-read t c =
    rw (err_passed_on _ c.from_residual-in_err-rest.ensures.1, ← c.in-Some.ensures.is, nested_deeper c.args.schema.now c.args.levels (omega arith), c.in_ok-cond.ensures.read)
    (halts_too c.in_err-rest.field-0.0 _ _ c.in_err-rest.ensures.read (λ halt f. rw f refl))

pub primary-returns-clause-read : goal.primary-returns-clause-read
unfolding primary_in nested_readers
primary-returns-clause-read t c =
    let deeper = nested_deeper c.args.schema.now c.args.levels (omega arith) in
    rw (← c.in-Some.ensures.is, deeper, c.in_ok-cond.ensures.read, c.in_ok-rest.ensures.read) refl
