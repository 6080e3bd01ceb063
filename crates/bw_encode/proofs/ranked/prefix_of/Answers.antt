-- Each turn adds one byte.
use Rattle.std.proofs.Common.{◌≡◌, ◌<◌, get_or, rules, arith}
use Rattle.bw_encode.proofs.RankLemmas.{byte_more, is_prefix, prefix_room}
use Rattle.bw_encode.proofs.ranked.prefix_of.Goals as goal

pub overflow_mul-prefix : goal.overflow_mul-prefix
overflow_mul-prefix c = let room = prefix_room c.loop-i.i c.loop-i.prefix c.loop-i-test.true c.loop-i.invariant.low in omega arith

pub overflow_add-prefix : goal.overflow_add-prefix
overflow_add-prefix c =
    let room = prefix_room c.loop-i.i c.loop-i.prefix c.loop-i-test.true c.loop-i.invariant.low in
    let byte = c.unwrap_or.type_inv in
    let same = c.from.ensures in
    omega arith

pub loop-i-preserved : goal.loop-i-preserved
loop-i-preserved c =
    let byte : c.from.result < 256 = let b = c.unwrap_or.type_inv in let same = c.from.ensures in omega arith in
    let is : c.from.result ≡ get_or c.args.bytes.now c.loop-i.i 0 = search rules in
    let more = byte_more c.args.bytes.now c.loop-i.i c.loop-i.prefix c.from.result c.loop-i-test.true is byte c.loop-i.invariant.value c.loop-i.invariant.low c.loop-i.invariant.small in
    record { value = more.0; low = more.1; small = more.2 }

pub returns : goal.returns
returns c = is_prefix c.args.bytes.now c.loop-i.i c.loop-i.prefix (omega arith) c.loop-i.invariant.value c.loop-i.invariant.small
