use Rattle.bw_cert_text.proofs.TextSpelling.{spelled_from, accepted_from, fits_from}
use Rattle.bw_cert_text.proofs.certificate.Certificate.parse.Goals as goal

pub returns-clause-spelled : goal.returns-clause-spelled
returns-clause-spelled c = spelled_from c.args.first_line c.args.text.now c.read_certificate.result c.read_certificate.ensures.read

pub returns-clause-accepted : goal.returns-clause-accepted
returns-clause-accepted c = λ certificate is. accepted_from c.args.first_line c.args.text.now c.read_certificate.result c.read_certificate.ensures.read certificate is

pub returns-clause-fits : goal.returns-clause-fits
returns-clause-fits c = fits_from c.args.first_line c.args.text.now c.read_certificate.result c.read_certificate.ensures.read
