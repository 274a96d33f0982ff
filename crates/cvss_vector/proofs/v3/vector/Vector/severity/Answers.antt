use Rattle.std.proofs.Common.{ap, ◌∙◌}
use Rattle.cvss_base.specs.SeverityScale.{severity_of_score}
use Rattle.cvss_vector.specs.v3.VectorWeights.{weights_of}
use Rattle.cvss_score.proofs.v3_lemmas.LawLemmas.{base_score_once}
use Rattle.cvss_vector.proofs.v3.vector.Vector.severity.Goals as goal

pub returns : goal.returns
returns c = λ count is.
    let one = base_score_once c.args.self.now.minor_version (weights_of c.args.self.now) c.base_score.result count c.base_score.ensures.value is in
    c.severity.ensures ∙ ap severity_of_score one
