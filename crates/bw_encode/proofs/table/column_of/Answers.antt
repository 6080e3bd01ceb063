use Rattle.std.proofs.Common.{rules, FitsSigned, w64}
use Rattle.std.proofs.lemmas.Int.{to_z-of_z}
use Rattle.bw_encode.proofs.TableLemmas.{range_parts}
use Rattle.bw_encode.proofs.table.column_of.Goals as goal

pub invariant_of-result : goal.invariant_of-result
invariant_of-result c =
    let parts = range_parts c.args.column.now.seen.lo c.args.column.now.seen.hi c.requires.coded.range in
    let lo : FitsSigned w64 c.args.column.now.seen.lo = search rules in
    let hi : FitsSigned w64 c.args.column.now.seen.hi = search rules in
    rw (to_z-of_z w64 c.args.column.now.seen.lo lo, to_z-of_z w64 c.args.column.now.seen.hi hi) (record { ordered = parts.0; narrow = parts.1 })
