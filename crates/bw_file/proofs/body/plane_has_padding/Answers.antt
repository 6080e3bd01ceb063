use Rattle.std.proofs.Common.{◌∙◌}
use Rattle.std.proofs.lemmas.Bool.{ne_eqb, lt-leb}
use Rattle.bw_file.proofs.BodyLemmas.{bits_begin, bits_clear, bits_early}
use Rattle.bw_file.proofs.body.plane_has_padding.Goals as goal
use Rattle.bw_file.proofs.body.plane_has_padding.Goals.{else-rows-at-via-then-rows-at+else-byte-bit-eq1}
use Rattle.bw_file.proofs.body.plane_has_padding.Goals.{else-rows-at-via-else-rows-at}

pub loop-bit-init : goal.loop-bit-init
loop-bit-init c = bits_begin c.args.rows c.args.at c.args.byte

pub loop-bit-preserved : goal.loop-bit-preserved
loop-bit-preserved c =
    elim c.else-rows-at.branch [
      | else-rows-at-via-then-rows-at+else-byte-bit-eq1 w ↦
          c.loop-bit.invariant ∙ bits_clear c.args.rows c.args.at c.args.byte c.loop-bit.bit c.loop-bit-test.true (ne_eqb _ _ w.if-byte-bit-eq1.false)
      | else-rows-at-via-else-rows-at w ↦
          c.loop-bit.invariant ∙ bits_early c.args.rows c.args.at c.args.byte c.loop-bit.bit c.loop-bit-test.true (lt-leb _ _ w.if-rows-at.false)
    ]
