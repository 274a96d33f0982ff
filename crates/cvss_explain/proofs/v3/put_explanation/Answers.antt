use Rattle.std.proofs.Common.{subst}
use Rattle.cvss_explain.specs.V3.{IsExplanationText}
use Rattle.cvss_explain.proofs.v3.put_explanation.Goals as goal

pub returns : goal.returns
returns c =
    subst (λ w. IsExplanationText c.args.line c.args.cvss.now c.args.vector.now.minor_version w c.args.tenths c.put_object.new.page) c.weights-weights.ensures.value
    (record {
      steps = c.of.result;
      are = c.of.ensures;
      is = rw (c.requires, c.scope_letter-modified.ensures.text, c.scope_letter-scope.ensures.text, c.weight_members.ensures.text) at c.put_object.ensures.text;
    })
