use Rattle.std.proofs.Common.{◌∙◌, ap, ◌+◌, ◌-◌, ◌*◌, length, drop, arith, take-take}
use Rattle.bw_lanes.specs.Lanes.{lanes_of_bytes}
use Rattle.bw_planes.proofs.SumLemmas.{word_of_codes}
use Rattle.bw_planes.proofs.sum.word_of.Goals as goal

pub returns : goal.returns
returns c =
    let bytes = c.args.bytes.now in
    let start = 64 * c.args.plane + 8 * c.args.word in
    c.first_word.ensures ∙ ap lanes_of_bytes (take-take 8 (length bytes - start) (drop start bytes) (omega (arith, c.requires.size, c.requires.plane, c.requires.word)))
    ∙ word_of_codes c.args.width c.args.plane c.args.word bytes c.requires.size c.requires.plane c.requires.word
