use Rattle.std.proofs.Common.{◌∙◌, ap, arith}
use Rattle.bw_io.proofs.KeptBytes.{handed_over}
use Rattle.bw_io.proofs.read_ahead.ReadAhead.hand_over.Goals as goal

pub returns-clause-bytes : goal.returns-clause-bytes
returns-clause-bytes g c =
    let source = c.args.self.now in
    let same = c.deref.ensures.value ∙ ap (λ memory. memory.items) c.deref-memory.ensures in
    handed_over source.memory.value.items c.deref.result.now c.copy_from_slice.new.self _ source.start source.end c.min-given.result same (omega (arith, c.min-given.ensures))
    c.copy_from_slice.ensures.after
