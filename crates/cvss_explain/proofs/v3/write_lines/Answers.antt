use Rattle.std.proofs.Common.{refl, subst}
use Rattle.std.proofs.lemmas.Result.{on_ok_weaker}
use Rattle.cvss_explain.specs.V3.{AreLines, lines_text}
use Rattle.cvss_explain.proofs.PartLemmas.{two_parts}
use Rattle.cvss_explain.proofs.v3.write_lines.Goals as goal

pub returns : goal.returns
returns c =
    let w = c.weights-weights.result in
    on_ok_weaker c.write_ways.result
    (λ ways. record {
      text = lines_text c.args.vector.now w c.of-steps.result;
      holds = subst (λ weights. AreLines c.args.vector.now weights (lines_text c.args.vector.now w c.of-steps.result)) c.weights-weights.ensures.value
          (record { steps = c.of-steps.result; are = c.of-steps.ensures; is = refl });
      written = two_parts _ _ _ _ _ c.in_ok-write_metrics.ensures (rw (c.is_in_v3.ensures, c.is_in_v3-2.ensures) at ways);
    })
    c.write_ways.ensures
