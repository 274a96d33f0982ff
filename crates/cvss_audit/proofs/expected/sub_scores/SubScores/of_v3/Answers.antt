use Rattle.std.proofs.Common.{lit<}
use Rattle.cvss_audit.proofs.TenthLemmas.{impact_bottom, near_by, near_equal}
use Rattle.cvss_vector.specs.v3.VectorWeights.{weights_of}
use Rattle.cvss_audit.proofs.expected.sub_scores.SubScores.of_v3.Goals as goal

pub returns : goal.returns
returns c = record {
  exploitability = near_equal _ _ _ (lit< tt) c.exploitability.ensures.value c.nearest_v3.ensures;
  impact = near_by _ _ _ _ (impact_bottom (weights_of c.args.vector.now)) c.scoped_impact.ensures.close c.scoped_impact.ensures.exact c.nearest_v3-2.ensures;
  sign = rw c.weights.ensures.value at c.is_below_zero.ensures;
}
