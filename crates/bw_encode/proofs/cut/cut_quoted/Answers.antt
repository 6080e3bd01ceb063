-- The bytes before the closing quotation mark are the field's own.
use Rattle.std.proofs.Common.{◌≡◌, ◌≤◌, ◌∙◌, ◌+◌, ap, arith, drop, get_or, length, sym, take}
use Rattle.std.proofs.lemmas.Bool.{ne_eqb}
use Rattle.std.specs.List.{prefix_len}
use Rattle.bw_encode.specs.Run.{joins_quoted}
use Rattle.bw_encode.proofs.CutLemmas.{cut_quoted}
use Rattle.bw_encode.proofs.cut.cut_quoted.Goals as goal

pub returns-clause-cut : goal.returns-clause-cut
returns-clause-cut c =
    let count : c.quoted_length-count.result ≡ prefix_len (joins_quoted c.args.dialect) c.args.inner.now = c.quoted_length-count.ensures.is in
    let room : prefix_len (joins_quoted c.args.dialect) c.args.inner.now + 2 ≤ length c.args.inner.now = omega (arith, c.if-inner-count.false) in
    let closing : get_or c.args.inner.now (prefix_len (joins_quoted c.args.dialect) c.args.inner.now) 0 ≡ c.args.dialect.quote = sym (ap (λ n. get_or c.args.inner.now n 0) count) ∙ c.if-inner-count-2.false in
    cut_quoted c.args.dialect c.args.inner.now _ room closing (ne_eqb _ _ c.if-end-dialect.false) (sym c.joins_bare.ensures ∙ c.if-joins_bare.false)
    (ap (λ n. take n c.args.inner.now) count) (ap (λ n. get_or c.args.inner.now (n + 1) 0) count) (c.skip_bytes.ensures ∙ ap (λ n. drop (n + 2) c.args.inner.now) count)
