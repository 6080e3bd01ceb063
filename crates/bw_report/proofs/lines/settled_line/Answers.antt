-- The line was written.
use Rattle.std.proofs.Common.{◌∙◌, ℕ, List, subst}
use Rattle.bw_io.specs.Sink.{GoesOut}
use Rattle.bw_report.proofs.lines.settled_line.Goals as goal

pub returns : goal.returns
returns g c =
    subst (λ (text : List ℕ). GoesOut (g.K.Sink.state c.args.sink.now) (g.K.Sink.state c.write_whole.new.sink) text c.write_whole.result)
    (c.as_bytes.ensures.value ∙ c.as_str.ensures.value ∙ c.line_of_settled-line.ensures) c.write_whole.ensures
