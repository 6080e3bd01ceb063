-- A byte order mark before the record stays.
use Rattle.std.proofs.Common.{◌≤◌, sym, arith, length, length-take-le}
use Rattle.csv.specs.Reading.{strip_bom}
use Rattle.bw_csv.specs.Fields.{HasMoreFields}
use Rattle.bw_csv.proofs.CutLemmas.{cuts, strip_less}
use Rattle.bw_csv.proofs.many_fields.without_more_fields.Goals as goal

pub overflow_sub-result : goal.overflow_sub-result
overflow_sub-result c = rw c.after_byte_order_mark-unmarked.ensures (strip_less c.args.text.now)

pub slice_bounds-result-end : goal.slice_bounds-result-end
slice_bounds-result-end c =
    let less : length c.after_byte_order_mark-unmarked.result.now ≤ length c.args.text.now = rw c.after_byte_order_mark-unmarked.ensures (strip_less c.args.text.now) in
    sym (length-take-le _ _ (let within = c.in-Some.ensures.1 in omega arith))

pub returns-in-Some : goal.returns-in-Some
returns-in-Some c =
    let has : HasMoreFields c.args.most (strip_bom c.args.text.now) c.in-Some.end = rw (← c.after_byte_order_mark-unmarked.ensures) c.in-Some.ensures in
    rw c.after_byte_order_mark-unmarked.ensures (cuts c.args.most c.in-Some.end c.args.text.now has)
