use Rattle.std.proofs.Common.{lit<, refl}
use Rattle.cvss_audit.proofs.TenthLemmas.{near_equal}
use Rattle.cvss_audit.proofs.expected.sub_scores.SubScores.of_v2.Goals as goal

pub returns : goal.returns
returns c = record {
  exploitability = near_equal _ _ _ (lit< tt) c.exploitability.ensures.value c.nearest_v2.ensures;
  impact = near_equal _ _ _ (lit< tt) c.impact.ensures.value c.nearest_v2-2.ensures;
  sign = refl;
}
