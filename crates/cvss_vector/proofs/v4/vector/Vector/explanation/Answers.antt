use Rattle.std.proofs.Common.{subst}
use Rattle.cvss_score.specs.v4.Explanation.{IsExplanation}
use Rattle.cvss_vector.proofs.v4.vector.Vector.explanation.Goals as goal

pub returns-clause-explanation : goal.returns-clause-explanation
returns-clause-explanation c = subst (λ v. IsExplanation v c.of.result) c.effective.ensures c.of.ensures.explanation
