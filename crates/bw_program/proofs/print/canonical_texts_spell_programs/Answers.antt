use Rattle.bw_program.proofs.PrintedText.{text_spells}
use Rattle.bw_program.proofs.print.canonical_texts_spell_programs.Goals as goal

pub returns : goal.returns
returns c = λ columns program apart names valid fit. text_spells columns program apart names valid fit
