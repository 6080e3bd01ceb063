use Rattle.bw_cert_text.proofs.PrintedText.{text_spells}
use Rattle.bw_cert_text.proofs.print.canonical_texts_spell_certificates.Goals as goal

pub returns : goal.returns
returns c = λ columns first certificate names small there. text_spells columns first certificate names small there
