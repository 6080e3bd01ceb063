-- Each turn reads one more line; the end and each error are the text's.
use Rattle.std.proofs.Common.{◌≡◌, ◌∙◌, ◌∷◌, [], ◌<◌, ◌≤◌, ℕ, ap, sym, Err, length, length-append}
use Rattle.std.proofs.Common.{arith, le-leb}
use Rattle.bw_model.specs.Fault.{at_line}
use Rattle.bw_model.proofs.ErrLemmas.{err_passed_on}
use Rattle.bw_text.specs.Lines.{line_of}
use Rattle.bw_program.specs.Program.{most_instructions}
use Rattle.bw_program.specs.ProgramText.{instr_on}
use Rattle.bw_program.proofs.TextLemmas.{program_on-end, program_on-long, result_read}
use Rattle.bw_program.proofs.TextLemmas.{result_refused, instr_read}
use Rattle.bw_program.proofs.parse.read_lines.Goals as goal

pub returns-then-is_result_line-clause-read : goal.returns-then-is_result_line-clause-read
returns-then-is_result_line-clause-read c =
    let line = rw c.in-Some.is at c.in_ok-line.ensures.line in
    result_read _ _ _ _ _ _ _ c.result_of.result c.loop-line.invariant.told line (sym c.is_result_line.ensures ∙ c.if-is_result_line.true) c.result_of.ensures.register

pub returns-then-is_result_line-clause-fault : goal.returns-then-is_result_line-clause-fault
returns-then-is_result_line-clause-fault c =
    let line = rw c.in-Some.is at c.in_ok-line.ensures.line in
    result_refused _ _ _ _ _ _ _ c.result_of.result c.loop-line.invariant.told line (sym c.is_result_line.ensures ∙ c.if-is_result_line.true) c.result_of.ensures.register

pub returns-then-len-ge-MAX_INSTRUCTIONS-clause-fault :
    goal.returns-then-len-ge-MAX_INSTRUCTIONS-clause-fault
returns-then-len-ge-MAX_INSTRUCTIONS-clause-fault c = λ _.
    let line = rw c.in-Some.is at c.in_ok-line.ensures.line in
    let count : c.len.result ≡ length c.loop-line.placed.items = c.len.ensures ∙ c.loop-line.placed.ok.0 in
    let long : most_instructions ≤ length c.loop-line.placed.items = omega arith in
    c.loop-line.invariant.told ∙ program_on-long _ _ _ _ _ _ line (sym c.is_result_line.ensures ∙ c.if-is_result_line.false) (le-leb _ _ long) ∙ ap Err (sym c.at_line.ensures)

pub returns-in_err-instr-clause-fault : goal.returns-in_err-instr-clause-fault
returns-in_err-instr-clause-fault c =
    let columns = c.args.schema.now.columns.items in
    let line = rw c.in-Some.is at c.in_ok-line.ensures.line in
    let count : c.len-in-Some.result ≡ length c.loop-line.placed.items = c.len-in-Some.ensures ∙ c.loop-line.placed.ok.0 in
    let room : length c.loop-line.placed.items < most_instructions = omega (arith, c.len.ensures, c.loop-line.placed.ok.0) in
    let read = sym c.in_err-instr.was ∙ c.instr_of.ensures.parsed ∙ ap (λ (n : ℕ). instr_on columns n (line_of c.in-Some.line)) count in
    rw (err_passed_on _ c.from_residual-in_err-instr.ensures.1) (λ _. c.loop-line.invariant.told ∙ instr_read columns _ _ _ _ _ _ line (sym c.is_result_line.ensures ∙ c.if-is_result_line.false) room read)

pub loop-line-preserved : goal.loop-line-preserved
loop-line-preserved c =
    let columns = c.args.schema.now.columns.items in
    let line = rw c.in-Some.is at c.in_ok-line.ensures.line in
    let count : c.len-in-Some.result ≡ length c.loop-line.placed.items = c.len-in-Some.ensures ∙ c.loop-line.placed.ok.0 in
    let room : length c.loop-line.placed.items < most_instructions = omega (arith, c.len.ensures, c.loop-line.placed.ok.0) in
    let read = sym c.in_ok-instr.was ∙ c.instr_of.ensures.parsed ∙ ap (λ (n : ℕ). instr_on columns n (line_of c.in-Some.line)) count in
    let next = instr_read columns _ _ _ _ _ _ line (sym c.is_result_line.ensures ∙ c.if-is_result_line.false) room read in
    rw c.in_ok-push.ensures.items (record {
      within_limit = omega (arith, length-append c.loop-line.placed.items (record { line = c.in-Some.line.number; instr = c.in_ok-instr.instr } ∷ []));
      told = c.loop-line.invariant.told ∙ next;
      end = c.loop-line.invariant.end ∙ sym c.in_ok-line.ensures.end;
    })

pub returns-clause-fault : goal.returns-clause-fault
returns-clause-fault c = λ _.
    let none = rw c.in_default.is at c.in_ok-line.ensures.none in
    c.loop-line.invariant.told ∙ program_on-end _ _ _ _ none.0
    ∙ ap (λ (n : ℕ). Err (at_line 506 n)) (c.loop-line.invariant.end ∙ none.1 ∙ sym c.number.ensures)
    ∙ ap Err (sym c.at_line-2.ensures)
