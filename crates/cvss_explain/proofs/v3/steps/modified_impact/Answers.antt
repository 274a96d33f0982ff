use Rattle.std.proofs.Common.{arith}
use Rattle.std.proofs.lemmas.Int.{ints}
use Rattle.cvss_score.specs.v3.Scores.{modified_exponent}
use Rattle.cvss_score.proofs.v3_lemmas.CountLemmas.{modified_parts}
use Rattle.cvss_score.proofs.v3_lemmas.NumberLemmas.{approximates}
use Rattle.cvss_explain.proofs.v3.steps.modified_impact.Goals as goal

pub returns-clause-near : goal.returns-clause-near
returns-clause-near c =
    let w = c.args.weights.now in
    approximates (modified_exponent c.args.minor) w.modified_changed _ _ _ _
    (modified_parts w c.requires.tables) c.signed_impact-units.result (record { equal = omega (arith, ints, c.from.ensures) })
    (rw (c.modified_parts.ensures.value, c.modified-exponent.ensures) at c.signed_impact-units.ensures.value)
