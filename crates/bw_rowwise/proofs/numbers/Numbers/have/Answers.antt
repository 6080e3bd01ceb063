-- What the search finds is there, and nothing else.
use Rattle.std.proofs.Common.{rules, ◌∙◌, w64}
use Rattle.std.proofs.lemmas.Int.{to_z-of_z}
use Rattle.bw_rowwise.proofs.NumberLemmas.{searched}
use Rattle.bw_rowwise.proofs.numbers.Numbers.have.Goals as goal

pub returns : goal.returns
returns c =
    let found = rw (c.deref.ensures.value, to_z-of_z w64 c.args.n (search rules)) at c.binary_search.ensures.position in
    c.is_ok.ensures.value
    ∙ searched c.args.n c.args.self.now.sorted.items c.binary_search.result (rw c.deref.ensures.value at c.binary_search.ensures.bound) c.args.self.now.ascending found
