use Rattle.std.proofs.Common.{◌≡◌, ◌++◌, length, arith}
use Rattle.std.proofs.lemmas.Result.{on_ok_weaker}
use Rattle.bw_file.specs.FileBytes.{header_bytes, front_bytes}
use Rattle.bw_file.proofs.EncoderLemmas.{three_added}
use Rattle.bw_file.proofs.encoder.push_header.Goals as goal

pub returns-clause-header : goal.returns-clause-header
unfolding header_bytes
returns-clause-header c =
    let columns = c.args.schema.now.columns.items in
    let count : c.len.result ≡ length columns = omega (arith, c.len.ensures, c.args.schema.now.columns.ok.0) in
    let front : c.push_front.new.bytes.items ≡ c.args.bytes.now.items ++ front_bytes c.args.order c.args.version c.args.layout (length columns) 0 = rw count at c.in_ok-push_front.ensures.front in
    on_ok_weaker c.push_columns.result (λ added. three_added _ _ _ _ _ _ _ front c.in_ok-push_name.ensures.name (rw c.deref.ensures.value at added)) c.push_columns.ensures.columns
