use Rattle.std.proofs.Common.{◌∙◌, Ok, inl, refl}
use Rattle.cvss_vector.specs.Answers.{text_of}
use Rattle.cvss_ffi.proofs.LengthLemmas.{length_denoted_cvss}
use Rattle.cvss_ffi.proofs.vector.parse.Goals as goal

pub returns-clause-reported : goal.returns-clause-reported
returns-clause-reported c = (
  Ok (text_of c.in-Ok.cvss),
  record { cvss = c.in-Ok.cvss; is = c.in-Ok.ensures.accepted; holds = refl },
  c.write_vector.ensures,
)

pub returns-clause-vector : goal.returns-clause-vector
returns-clause-vector c = inl (record { cvss = c.in-Ok.cvss; is = c.in-Ok.ensures.accepted; holds = c.fill.ensures })

pub returns-clause-length : goal.returns-clause-length
returns-clause-length c = λ cvss is.
    c.write_vector.ensures.written.reported_is ∙ length_denoted_cvss c.args.text.now c.in-Ok.cvss c.in-Ok.ensures.accepted.denoted
