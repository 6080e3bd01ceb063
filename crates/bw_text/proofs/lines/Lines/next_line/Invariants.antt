use Rattle.std.proofs.Common.{◌≡◌, ◌+◌, ◌<◌, ◌^◌, length}
use Rattle.bw_text.specs.Lines.{Unread, lines_in, end_in}
use Rattle.bw_text.proofs.lines.Lines.next_line.Given as goal

-- the lines that were passed say nothing, and are counted
abbrev pub invariant-loop-alloc : goal.invariant-loop-alloc
invariant-loop-alloc l =
    let old : Unread = record { number = l.fn.self.number; text = l.fn.self.text } in
    let new : Unread = record { number = l.self-inside.number; text = l.self-inside.text.now } in
    record {
      bound : l.self-inside.number + length l.self-inside.text.now < 2 ^ 64;
      lines : lines_in old ≡ lines_in new;
      end : end_in old ≡ end_in new;
    }

abbrev pub decreases-loop-alloc : goal.decreases-loop-alloc
decreases-loop-alloc l = length l.self-inside.text.now
