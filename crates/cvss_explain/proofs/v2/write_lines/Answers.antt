use Rattle.std.proofs.Common.{refl, subst}
use Rattle.std.proofs.lemmas.Result.{on_ok_weaker}
use Rattle.cvss_explain.specs.V2.{AreStepsOf, lines_text}
use Rattle.cvss_explain.proofs.PartLemmas.{two_parts}
use Rattle.cvss_explain.proofs.v2.write_lines.Goals as goal

pub returns : goal.returns
returns c =
    on_ok_weaker c.write_ways.result
    (λ ways. record {
      text = lines_text c.args.vector.now c.of-steps.result;
      holds = record {
        steps = c.of-steps.result;
        are = subst (λ w. AreStepsOf w c.of-steps.result) c.weights.ensures.value c.of-steps.ensures;
        is = refl;
      };
      written = two_parts _ _ _ _ _ c.in_ok-write_metrics.ensures (rw (c.is_in_v2.ensures, c.is_in_v2-2.ensures) at ways);
    })
    c.write_ways.ensures
