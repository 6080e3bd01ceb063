-- 64 bits have at most 19 digits after a sign.
use Rattle.std.proofs.Common.{arith}
use Rattle.std.proofs.lemmas.Fmt.{length-decimal-le}
use Rattle.bw_answer.proofs.record.put_number.Goals as goal

pub write_digits-start-requires : goal.write_digits-start-requires
write_digits-start-requires c = (omega (arith, length-decimal-le 19 c.unsigned_abs.result (omega arith) (omega arith) (omega arith)), omega (arith, c.requires))

pub put_byte-requires : goal.put_byte-requires
put_byte-requires c =
    let long = length-decimal-le 19 c.unsigned_abs.result (omega arith) (omega arith) (omega arith) in
    (omega (arith, long, c.write_digits-start.ensures.start, c.requires), omega (arith, c.write_digits-start.ensures.start, c.requires, c.write_digits-start.auto.buf))

pub returns-then-n-lt0-clause-capacity : goal.returns-then-n-lt0-clause-capacity
returns-then-n-lt0-clause-capacity c =
    let long = length-decimal-le 19 c.unsigned_abs.result (omega arith) (omega arith) (omega arith) in
    (omega (arith, c.put_byte.ensures.capacity, c.write_digits-start.ensures.start), omega (arith, long, c.put_byte.ensures.capacity, c.write_digits-start.ensures.start))

pub returns-else-n-lt0-clause-capacity : goal.returns-else-n-lt0-clause-capacity
returns-else-n-lt0-clause-capacity c =
    let long = length-decimal-le 19 c.unsigned_abs.result (omega arith) (omega arith) (omega arith) in
    (omega (arith, c.write_digits-start.ensures.start), omega (arith, long, c.write_digits-start.ensures.start))
