-- Null may be any of some numbers.
use Rattle.std.proofs.Common.{◌∙◌, sym}
use Rattle.bw_rowwise.proofs.NumberLemmas.{null_among_some}
use Rattle.bw_rowwise.proofs.numbers.Numbers.among.Goals as goal

pub returns-in-None-2 : goal.returns-in-None-2
returns-in-None-2 c =
    rw c.in-None-2.is (sym (null_among_some c.args.self.now.sorted.items c.args.self.now.sorted.len c.args.self.now.sorted.ok.0 (sym c.if-is_empty.false ∙ c.is_empty.ensures)))
