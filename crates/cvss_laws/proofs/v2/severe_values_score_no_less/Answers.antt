use Rattle.cvss_vector.specs.v2.Weights.{weights_of}
use Rattle.cvss_laws.proofs.v2.BoundLemmas.{bounded}
use Rattle.cvss_laws.proofs.v2.EnvironmentalLemmas.{environmental_scores_ordered}
use Rattle.cvss_laws.proofs.v2.NegativeLemmas.{not_negative}
use Rattle.cvss_laws.proofs.v2.SevereLemmas.{base_scores_ordered, temporal_scores_ordered}
use Rattle.cvss_laws.proofs.v2.severe_values_score_no_less.Goals as goal

pub returns : goal.returns
returns c = record {
  base = λ less more. base_scores_ordered (weights_of less) (weights_of more) (bounded more);
  temporal = λ less more. temporal_scores_ordered (weights_of less) (weights_of more) (bounded more);
  environmental = λ less more severe none.
      environmental_scores_ordered (weights_of less) (weights_of more) (bounded less) (bounded more) (not_negative more none) severe;
}
