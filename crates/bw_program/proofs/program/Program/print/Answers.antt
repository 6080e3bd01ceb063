-- The text is that of the program's instructions, and spells the program.
use Rattle.std.proofs.Common.{◌≡◌, true, subst, ℕ, List, ◌∙◌, sym, ap}
use Rattle.bw_program.specs.declared.instr.Instr.{Instr}
use Rattle.bw_program.specs.PrintText.{lines_text, print_text}
use Rattle.bw_program.specs.Program.{is_program}
use Rattle.bw_program.specs.ProgramText.{IsProgramText}
use Rattle.bw_program.proofs.PrintedText.{text_spells}
use Rattle.bw_program.proofs.program.Program.print.Goals as goal

pub returns-clause-text : goal.returns-clause-text
returns-clause-text c =
    let columns = c.args.schema.now.columns.items in
    c.in_ok-program_text.ensures
    ∙ ap (λ (instrs : List Instr). lines_text columns instrs c.self.inside.result) c.deref.ensures.value
    ∙ ap (print_text columns) c.self.view_is

pub returns-clause-spelled : goal.returns-clause-spelled
returns-clause-spelled c =
    let columns = c.args.schema.now.columns.items in
    let valid : is_program c.args.self.now ≡ true = ap is_program (sym c.self.view_is) ∙ c.self.invariant.0 in
    let P : List ℕ → Type 0 = λ text. IsProgramText columns text c.args.self.now in
    subst P (sym (returns-clause-text c)) (text_spells columns c.args.self.now c.args.schema.now.apart c.has_names_and_bounds.ensures.names valid c.requires)
