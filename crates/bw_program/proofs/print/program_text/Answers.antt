-- Each line that is written goes over from what is left.
use Rattle.std.proofs.Common.{◌≡◌, List, ℕ, ◌∙◌, sym, ap, ◌++◌}
use Rattle.bw_program.proofs.PrintLemmas.{lines_text-next, lines_text-end}
use Rattle.bw_text.proofs.PrintedLemmas.{written}
use Rattle.bw_program.proofs.print.program_text.Goals as goal

pub loop-instr-preserved : goal.loop-instr-preserved
loop-instr-preserved c =
    written c.loop-instr.text.items _ _ _ _ c.put_instr.new.text.items c.in_ok-put_instr.ensures
    (lines_text-next c.args.schema.now.columns.items c.args.instrs.now c.loop-instr.instr-index c.args.answer _ c.loop-instr-test.true)
    c.loop-instr.invariant

pub returns : goal.returns
returns c =
    let last = lines_text-end c.args.schema.now.columns.items c.args.instrs.now c.loop-instr.instr-index c.args.answer c.loop-instr-test.false in
    c.in_ok-put_result.ensures ∙ ap (λ (rest : List ℕ). c.loop-instr.text.items ++ rest) (sym last)
    ∙ c.loop-instr.invariant
