-- Both tests say whether the texts are one in lowercase.
use Rattle.std.proofs.lemmas.Bool.Decides.{same_from_decides}
use Rattle.std.proofs.lemmas.Slice.Eq.{bytes_eq-Decides}
use Rattle.bw_text.specs.Text.{same_text}
use Rattle.bw_text.proofs.text.is_same_text.Goals as goal

pub returns : goal.returns
unfolding same_text
returns c = same_from_decides _ _ c.eq_ignore_ascii_case.ensures.test (bytes_eq-Decides _ _)
