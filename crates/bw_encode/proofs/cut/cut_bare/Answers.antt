-- The bytes before the one that ends the field are its own.
use Rattle.std.proofs.Common.{◌∙◌, ◌+◌, ap, drop, get_or, take}
use Rattle.bw_encode.proofs.CutLemmas.{cut_bare}
use Rattle.bw_encode.proofs.cut.cut_bare.Goals as goal

pub returns-clause-cut : goal.returns-clause-cut
returns-clause-cut c = cut_bare c.args.dialect c.args.text.now _ c.requires (rw c.bare_length-count.ensures.is at c.if-count-text.false)
    (ap (λ n. take n c.args.text.now) c.bare_length-count.ensures.is) (ap (λ n. get_or c.args.text.now n 0) c.bare_length-count.ensures.is)
    (c.skip_bytes.ensures ∙ ap (λ n. drop (n + 1) c.args.text.now) c.bare_length-count.ensures.is)
