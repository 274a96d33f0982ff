use Rattle.cvss_vector.specs.v3.VectorWeights.{weights_of}
use Rattle.cvss_vector.proofs.v3.TableLemmas.{weights_listed}
use Rattle.cvss_laws.proofs.v3.SevereLemmas.{base_scores_ordered, temporal_scores_ordered}
use Rattle.cvss_laws.proofs.v3.severe_values_score_no_less.Goals as goal

pub returns : goal.returns
returns c = record {
  base = λ minor less more.
      base_scores_ordered (weights_of less) (weights_of more) (weights_listed less) (weights_listed more) minor;
  temporal = λ minor less more.
      temporal_scores_ordered (weights_of less) (weights_of more) (weights_listed less) (weights_listed more) minor;
}
