-- Words that have room aren't cut.
use Rattle.std.proofs.Common.{length, refl, arith}
use Rattle.std.specs.Fmt.InlineText.{inline_text}
use Rattle.bw_report.proofs.Texts.{append_fits}
use Rattle.bw_report.proofs.lines.and_words.Goals as goal

pub returns : goal.returns
returns g c =
    let line = inline_text c.args.line in
    let words = c.args.words.now in
    append_fits _ (length words) line line words (inline_text c.and_str.result) c.and_str.ensures.within refl c.requires (omega arith)
