use Rattle.cvss_vector.specs.v3.VectorWeights.{weights_of}
use Rattle.cvss_vector.proofs.v3.TableLemmas.{weights_listed}
use Rattle.cvss_laws.proofs.v3.ModifiedLemmas.{scores_within}
use Rattle.cvss_laws.proofs.v3.environmental_score_falls_by_at_most_a_tenth.Goals as goal

pub returns : goal.returns
returns c = λ less more severe first second.
    scores_within (weights_of less) (weights_of more) (weights_listed less) (weights_listed more) severe first second
