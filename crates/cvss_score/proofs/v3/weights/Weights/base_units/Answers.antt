use Rattle.cvss_score.specs.declared.v3.rules.Exponent.TheVariants.{Fifteen}
use Rattle.cvss_score.proofs.v3_lemmas.CountLemmas.{base_parts}
use Rattle.cvss_score.proofs.v3_lemmas.NumberLemmas.{stands}
use Rattle.cvss_score.proofs.v3.weights.Weights.base_units.Goals as goal

pub returns-clause-value : goal.returns-clause-value
returns-clause-value c = λ minor.
    let w = c.args.self.now in
    stands Fifteen w.changed _ _ _ _ (base_parts w c.requires.tables) minor _ (rw c.base_parts.ensures.value at c.first_number.ensures.value)
