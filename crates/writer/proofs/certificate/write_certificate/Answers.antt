-- What a certificate's shape and values give (`certificate-framed`).
use Rattle.writer.specs.Formats.{certificate_framed}
use Rattle.writer.proofs.Answers.{writes_as}
use Rattle.writer.proofs.certificate.write_certificate.Goals as goal

pub returns : goal.returns
returns c = writes_as (certificate_framed _ _ _ _ _ _) c.write_shaped.ensures
