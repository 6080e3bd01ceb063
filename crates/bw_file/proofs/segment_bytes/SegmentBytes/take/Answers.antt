use Rattle.std.proofs.Common.{◌≡◌, ◌+◌, ◌-◌, ◌≤◌, length, length-take, length-drop, take, drop}
use Rattle.std.proofs.Common.{subst, arith, slice_range}
use Rattle.bw_io.specs.Shared.{bytes_in}
use Rattle.bw_file.specs.Reading.{HasConsumed, state_at}
use Rattle.bw_file.specs.SegmentBytes.{bytes_held, AreNext}
use Rattle.bw_file.specs.declared.segment_bytes.SegmentBytes.{SegmentBytes}
use Rattle.bw_file.proofs.ReadingLemmas.{field_taken}
use Rattle.bw_file.proofs.SegmentBytesLemmas.{next_kept, next_left}
use Rattle.bw_file.proofs.segment_bytes.SegmentBytes.take.Goals as goal

pub returns-in-Shared-clause-reads : goal.returns-in-Shared-clause-reads
returns-in-Shared-clause-reads g c =
    let bytes = bytes_in c.in-Shared.shared in
    let block = slice_range bytes c.args.start (c.args.start + c.args.size) in
    let within = subst (λ (held : SegmentBytes). c.args.start + c.args.size ≤ length (bytes_held held)) c.in-Shared.is c.requires.within in
    let next = subst (λ (held : SegmentBytes). AreNext held c.args.start (g.S.Source.kept c.args.source.now)) c.in-Shared.is c.requires.next in
    let front : take c.args.size (g.S.Source.kept c.args.source.now) ≡ block = next_kept bytes _ c.args.start c.args.size within next.0 in
    let long : length block ≡ c.args.size = omega (arith, length-take (c.args.start + c.args.size - c.args.start) (drop c.args.start bytes), length-drop c.args.start bytes, within) in
    let took : HasConsumed (state_at (g.S.Source.state c.args.source.now) c.args.offset.now)
    (state_at (g.S.Source.state c.pass.new.self) (c.args.offset.now + c.args.size)) block =
    record { consumed = rw front at c.pass.ensures.bytes; advanced = omega (arith, long); each = rw c.as_slice.ensures at c.are_bytes.ensures } in
    field_taken c.args.size _ _ block took c.pass.ensures.count long

pub returns-in-Shared-clause-next : goal.returns-in-Shared-clause-next
returns-in-Shared-clause-next g c =
    let bytes = bytes_in c.in-Shared.shared in
    let kept = g.S.Source.kept c.args.source.now in
    let within = subst (λ (held : SegmentBytes). c.args.start + c.args.size ≤ length (bytes_held held)) c.in-Shared.is c.requires.within in
    let next = subst (λ (held : SegmentBytes). AreNext held c.args.start kept) c.in-Shared.is c.requires.next in
    rw c.pass.ensures.kept (
      next_left bytes kept c.args.start c.args.size within next.0,
      omega (arith, length-drop c.args.size kept, next.1, within),
    )
