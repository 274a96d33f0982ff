use Rattle.cvss_vector.specs.v3.VectorWeights.{weights_of}
use Rattle.cvss_vector.proofs.v3.TableLemmas.{weights_listed}
use Rattle.cvss_laws.proofs.v3.AlikeLemmas.{base_score_alike, temporal_score_alike, environmental_score_alike}
use Rattle.cvss_laws.proofs.v3.minor_versions_score_alike.Goals as goal

pub returns : goal.returns
returns c = record {
  base = λ minor other vector. base_score_alike (weights_of vector) (weights_listed vector) minor other;
  temporal = λ minor other vector. temporal_score_alike (weights_of vector) (weights_listed vector) minor other;
  environmental = λ minor other vector. environmental_score_alike (weights_of vector) (weights_listed vector) minor other;
}
