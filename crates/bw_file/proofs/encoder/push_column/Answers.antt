use Rattle.std.proofs.Common.{◌≡◌, ◌++◌, ◌∷◌, [], FitsSigned, w64, rules}
use Rattle.std.proofs.lemmas.Int.{to_z-of_z}
use Rattle.bw_file.specs.FileBytes.{column_bytes, name_bytes, bound_bytes, flag_byte}
use Rattle.bw_file.proofs.EncoderLemmas.{column_added}
use Rattle.bw_file.proofs.encoder.push_column.Goals as goal

pub returns-clause-column : goal.returns-clause-column
unfolding column_bytes
returns-clause-column c =
    let column = c.args.column.now in
    let lo_fits : FitsSigned w64 column.lo = search rules in
    let hi_fits : FitsSigned w64 column.hi = search rules in
    let e2 : c.push_bound.new.bytes.items ≡ c.push_name.new.bytes.items ++ bound_bytes column.lo = rw (to_z-of_z w64 _ lo_fits) at c.in_ok-push_bound.ensures.bound in
    let e3 : c.push_bound-2.new.bytes.items ≡ c.push_bound.new.bytes.items ++ bound_bytes column.hi = rw (to_z-of_z w64 _ hi_fits) at c.in_ok-push_bound-2.ensures.bound in
    let e4 : c.push.new.self.items ≡ c.push_bound-2.new.bytes.items ++ flag_byte column.nullable ∷ [] = rw (← c.flag_of.ensures) c.in_ok-push.ensures.items in
    column_added _ _ _ _ _ (name_bytes column.name) (bound_bytes column.lo) (bound_bytes column.hi) (flag_byte column.nullable) c.in_ok-push_name.ensures.name e2 e3 e4
