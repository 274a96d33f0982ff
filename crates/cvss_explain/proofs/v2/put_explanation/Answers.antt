use Rattle.std.proofs.Common.{subst}
use Rattle.cvss_explain.specs.V2.{AreStepsOf}
use Rattle.cvss_explain.proofs.v2.put_explanation.Goals as goal

pub returns : goal.returns
returns c = record {
  steps = c.of.result;
  are = subst (λ w. AreStepsOf w c.of.result) c.weights.ensures.value c.of.ensures;
  is = rw c.requires at c.put_object.ensures.text;
}
