-- The variables up to the column's end are counted, and the bit's stands so far before it.
use Rattle.std.proofs.Common.{◌≡◌, ◌+◌, ◌≤◌, suc, ap, ◌∙◌, arith}
use Rattle.bw_model.specs.Variable.{first_variable, variables_of}
use Rattle.bw_model.proofs.VariableLemmas.{width_before_next, first_variable_next}
use Rattle.bw_model.proofs.VariableLemmas.{first_variable_within}
use Rattle.bw_model.proofs.schema.Schema.var_bit.Goals as goal

pub overflow_sub-result : goal.overflow_sub-result
overflow_sub-result c =
    let next : c.count.result ≡ first_variable c.args.self.now.columns.items (c.args.col + 1) = c.count.ensures.count ∙ ap (λ columns. first_variable columns (c.args.col + 1)) c.deref.ensures.value in
    omega (arith, width_before_next c.args.self.now.columns.items c.args.col c.requires.column, first_variable_next c.args.self.now.columns.items c.args.col)

pub overflow_sub-result-2 : goal.overflow_sub-result-2
overflow_sub-result-2 c =
    let next : c.count.result ≡ first_variable c.args.self.now.columns.items (c.args.col + 1) = c.count.ensures.count ∙ ap (λ columns. first_variable columns (c.args.col + 1)) c.deref.ensures.value in
    omega (arith, width_before_next c.args.self.now.columns.items c.args.col c.requires.column, first_variable_next c.args.self.now.columns.items c.args.col)

pub returns : goal.returns
returns c =
    let columns = c.args.self.now.columns.items in
    let next : c.count.result ≡ first_variable columns (c.args.col + 1) = c.count.ensures.count ∙ ap (λ columns. first_variable columns (c.args.col + 1)) c.deref.ensures.value in
    let end = width_before_next columns c.args.col c.requires.column in
    let all : first_variable columns (suc c.args.col) ≤ variables_of columns = first_variable_within columns (suc c.args.col) in
    let same = first_variable_next columns c.args.col in
    record { variable = omega arith; below = omega arith }
