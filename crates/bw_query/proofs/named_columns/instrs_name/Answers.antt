-- One instruction more names the column, or doesn't.
use Rattle.std.proofs.Common.{◌∙◌, ap, sym, suc, ◌||◌, drop, add-one}
use Rattle.std.specs.List.{list_any}
use Rattle.bw_query.specs.NamedColumns.{instr_names}
use Rattle.bw_query.proofs.NamingLemmas.{any_at}
use Rattle.bw_query.proofs.named_columns.instrs_name.Goals as goal

pub returns-then-instr_names : goal.returns-then-instr_names
returns-then-instr_names c =
    let instrs = c.args.program.now.instrs in
    let names = instr_names c.args.column in
    let number = c.loop-number.number in
    sym (sym c.loop-number.invariant ∙ any_at names instrs number c.instr.result c.instr.ensures.instr
    ∙ ap (λ b. b || list_any names (drop (suc number) instrs)) (sym c.instr_names.ensures ∙ c.if-instr_names.true))

pub loop-number-preserved : goal.loop-number-preserved
loop-number-preserved c =
    let instrs = c.args.program.now.instrs in
    let names = instr_names c.args.column in
    let number = c.loop-number.number in
    ap (λ n. list_any names (drop n instrs)) (add-one number)
    ∙ sym (any_at names instrs number c.instr.result c.instr.ensures.instr ∙ ap (λ b. b || list_any names (drop (suc number) instrs)) (sym c.instr_names.ensures ∙ c.if-instr_names.false))
    ∙ c.loop-number.invariant
