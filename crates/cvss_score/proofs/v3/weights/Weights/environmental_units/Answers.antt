use Rattle.cvss_score.proofs.v3_lemmas.CountLemmas.{modified_parts}
use Rattle.cvss_score.proofs.v3_lemmas.NumberLemmas.{stands}
use Rattle.cvss_score.specs.v3.Scores.{modified_exponent}
use Rattle.cvss_score.proofs.v3.weights.Weights.environmental_units.Goals as goal

pub returns-clause-value : goal.returns-clause-value
returns-clause-value c = λ minor.
    let w = c.args.self.now in
    stands (modified_exponent c.args.minor_version) w.modified_changed _ _ _ _ (modified_parts w c.requires.tables) minor _
    (rw (c.modified_parts.ensures.value, c.modified.ensures) at c.first_number.ensures.value)
