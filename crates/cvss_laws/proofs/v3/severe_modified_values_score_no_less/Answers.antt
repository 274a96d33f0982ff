use Rattle.cvss_vector.specs.v3.VectorWeights.{weights_of}
use Rattle.cvss_vector.proofs.v3.TableLemmas.{weights_listed}
use Rattle.cvss_laws.proofs.v3.CompleteLemmas.{has_exploitability}
use Rattle.cvss_laws.proofs.v3.ModifiedLemmas.{one_scope_in_order, exploitable_in_order, unchanged_in_order}
use Rattle.cvss_laws.proofs.v3.severe_modified_values_score_no_less.Goals as goal

pub returns : goal.returns
returns c = record {
  one_scope = λ minor less more severe same.
      one_scope_in_order (weights_of less) (weights_of more) (weights_listed less) (weights_listed more) severe minor same;
  complete = λ minor less more severe none.
      exploitable_in_order (weights_of less) (weights_of more) (weights_listed less) (weights_listed more) severe minor
      (has_exploitability less none);
  unchanged = λ minor less more severe one other.
      unchanged_in_order (weights_of less) (weights_of more) (weights_listed less) (weights_listed more) severe minor one other;
}
