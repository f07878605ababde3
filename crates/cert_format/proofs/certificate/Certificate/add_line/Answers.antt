use Rattle.cert_format.proofs.Added.{text_added}
use Rattle.cert_format.proofs.certificate.Certificate.add_line.Goals as goal

pub returns-in-Some : goal.returns-in-Some
returns-in-Some c = text_added c.add.result c.args.text.now c.in-Some.line c.args.self.now c.add.new.self c.in-Some.ensures c.add.ensures
