use Rattle.std.proofs.Common.{◌∙◌, refl, sym}
use Rattle.cvss_audit.proofs.disagreements.difference.expected_here.Goals as goal

pub returns-else-eq : goal.returns-else-eq
returns-else-eq c = c.expected_at.ensures ∙ rw (sym c.if-eq.ensures) refl
