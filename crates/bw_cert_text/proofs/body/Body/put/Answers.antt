-- One line more is kept.
use Rattle.bw_cert_text.proofs.StoredLineLemmas.{one_more}
use Rattle.bw_cert_text.proofs.body.Body.put.Goals as goal

pub invariant_of-self-2 : goal.invariant_of-self-2
invariant_of-self-2 c =
    rw (c.in_ok-push.ensures.items, c.in_ok-reserve.ensures.items, c.in_ok-extend_from_slice-2.ensures.items, c.in_ok-reserve-2.ensures.items, c.in_ok-extend_from_slice.ensures.items)
    (one_more _ _ _ _ _ _ c.self.invariant c.requires.numbers c.requires.pairs).0

pub returns : goal.returns
returns c =
    rw (c.in_ok-push.ensures.items, c.in_ok-reserve.ensures.items, c.in_ok-extend_from_slice-2.ensures.items, c.in_ok-reserve-2.ensures.items, c.in_ok-extend_from_slice.ensures.items, ← c.self.view_is)
    (one_more _ _ _ _ _ _ c.self.invariant c.requires.numbers c.requires.pairs).1
