-- What was read is what the text says, and so it is a program.
use Rattle.std.proofs.Common.{◌≡◌, ◌∙◌, sym, ap, subst, ℕ, List, [], Ok, Result, length}
use Rattle.bw_model.specs.declared.fault.Fault.{Fault}
use Rattle.bw_model.specs.Fault.{◌>>=◌}
use Rattle.bw_text.specs.Lines.{Unread, lines_in, end_in}
use Rattle.bw_program.specs.declared.instr.Instr.{Instr}
use Rattle.bw_program.specs.declared.parse.Placed.{Placed}
use Rattle.bw_program.specs.Program.{ProgramShape, registers_of}
use Rattle.bw_program.specs.ProgramText.{instrs_of, within_end, program_within, program_on, program_of}
use Rattle.bw_program.specs.Step.{AreSteps}
use Rattle.bw_program.proofs.ProgramSpelling.{text_spelled, text_is_program}
use Rattle.bw_program.proofs.parse.read_program.Goals as goal

pub invariant_of-result : goal.invariant_of-result
invariant_of-result c =
    let columns = c.args.schema.now.columns.items in
    let placed : List Placed = c.read_lines.new.placed.items in
    let register = c.in_ok-result.result in
    let shape : ProgramShape = record { instrs = c.in_ok-instrs.instrs.items; result = register } in
    let instrs : instrs_of placed ≡ c.in_ok-instrs.instrs.items = ap instrs_of (sym c.deref-2.ensures.value) ∙ sym c.in_ok-instrs.ensures in
    let begun : program_of columns c.args.text.now ≡ program_on columns [] (lines_in c.new-lines.result) (end_in c.new-lines.result) =
    ap (λ (u : Unread). program_on columns [] (lines_in u) (end_in u)) (sym c.new-lines.ensures) in
    let within : within_end (length placed) placed (record { instrs = instrs_of placed; result = register }) ≡ Ok (record { instrs = instrs_of placed; result = register }) =
    rw c.deref.ensures.value at (c.in_ok-check_targets.ensures.within (record { instrs = instrs_of placed; result = register })) in
    let read : program_of columns c.args.text.now ≡ Ok shape =
    begun ∙ c.in_ok-result.ensures.read
    ∙ ap (λ (r : Result ℕ Fault). r >>= λ n. program_within placed n) (c.in_ok-refuse_more.ensures.none register)
    ∙ within ∙ ap (λ (is : List Instr). Ok (record { instrs = is; result = register })) instrs in (
      (text_is_program columns c.args.text.now shape (text_spelled columns c.args.text.now shape read)).0,
      (
        c.registers_of-registers.ensures ∙ ap (λ (is : List Instr). registers_of (record { instrs = is; result = register })) c.deref-4.ensures.value,
        subst (λ (is : List Instr). AreSteps is c.in_ok-steps.steps.items) c.deref-3.ensures.value c.in_ok-steps.ensures,
      ),
    )
