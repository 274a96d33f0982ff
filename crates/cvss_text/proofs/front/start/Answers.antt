use Rattle.cvss_text.proofs.PieceLemmas.{utf8_parts}
use Rattle.cvss_text.proofs.front.start.Goals as goal

pub returns-then-ne-clause-printable : goal.returns-then-ne-clause-printable
returns-then-ne-clause-printable g c = λ is. (utf8_parts _ _ _ c.in-Some.ensures.cut is).0

pub returns-in-None-clause-printable : goal.returns-in-None-clause-printable
returns-in-None-clause-printable g c = λ is. (utf8_parts _ _ _ c.in-Some.ensures.cut is).1
