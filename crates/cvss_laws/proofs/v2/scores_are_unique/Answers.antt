use Rattle.std.proofs.Common.{lit<}
use Rattle.cvss_base.specs.Exact.{of_count}
use Rattle.cvss_base.specs.Rounding.{IsRoundedV2}
use Rattle.cvss_base.proofs.RoundingLemmas.{v2-unique}
use Rattle.cvss_base.proofs.TenthsLemmas.{in_tenths_once}
use Rattle.cvss_score.specs.v2.Scores.{impact, IsTemporal, IsEnvironmental}
use Rattle.cvss_score.proofs.v2_lemmas.UniqueLemmas.{base_score_once, published_once, temporal_alone, environmental_once}
use Rattle.cvss_laws.proofs.v2.scores_are_unique.Goals as goal

pub returns : goal.returns
returns c = record {
  base = base_score_once;
  temporal = λ w. published_once (IsTemporal w (impact w)) (temporal_alone w (impact w) (lit< tt));
  environmental = λ w. published_once (IsEnvironmental w) (environmental_once IsRoundedV2 v2-unique w);
  internal = λ w count. in_tenths_once (IsTemporal w (of_count count)) (temporal_alone w (of_count count) (lit< tt));
}
