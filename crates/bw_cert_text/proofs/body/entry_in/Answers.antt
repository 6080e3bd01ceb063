use Rattle.std.proofs.Common.{arith}
use Rattle.bw_cert_text.proofs.StoredLineLemmas.{keep_read}
use Rattle.bw_cert_text.proofs.body.entry_in.Goals as goal

pub returns-in-Keep-len3 : goal.returns-in-Keep-len3
returns-in-Keep-len3 c =
    rw (c.in-Keep-len3.is-0, c.new.ensures) (keep_read c.in-Keep-len3.kept c.args.numbers.now c.args.pairs.now _ (omega (arith, c.in-Keep-len3.len_at_least, c.in-Keep-len3.len_below)))
