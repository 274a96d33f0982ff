use Rattle.std.proofs.Common.{rules, ap, ◌∙◌}
use Rattle.std.proofs.lemmas.Int.{to_z-of_z}
use Rattle.std.specs.Int.{w128}
use Rattle.cvss_vector.proofs.ReadLemmas.{score_once}
use Rattle.cvss_vector.specs.Answers.{severity_by}
use Rattle.cvss_vector.proofs.vector.Cvss.severity.Goals as goal

pub returns : goal.returns
returns c = λ score is.
    let one = score_once c.args.self.now c.score.result score c.score.ensures.value is in
    c.severity_of.ensures ∙ ap (severity_by c.args.self.now) (to_z-of_z w128 c.score.result (search rules) ∙ one)
