use Rattle.std.specs.Int.{w64, w128}
use Rattle.std.proofs.Common.{lit<}
use Rattle.std.proofs.lemmas.Int.{to_z-of_z}
use Rattle.cvss_score.specs.v2.Scores.{adjusted_impact}
use Rattle.cvss_score.proofs.v2.weights.Weights.adjusted_base.Goals as goal

pub returns-clause-value : goal.returns-clause-value
returns-clause-value c =
    let base = c.base_of in
    let impact = c.adjusted_impact in
    let is_base = simp (to_z-of_z w128 impact.result (record { sfits = impact.type_inv })) at base.ensures.value in
    simp (to_z-of_z w64 base.result (record { sfits = base.type_inv })) (is_base (adjusted_impact c.args.self.now) (lit< tt) impact.ensures.value)
