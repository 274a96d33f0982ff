use Rattle.std.proofs.Common.{arith}
use Rattle.std.proofs.lemmas.Int.{ints}
use Rattle.cvss_score.specs.declared.v3.rules.Exponent.TheVariants.{Fifteen}
use Rattle.cvss_score.proofs.v3_lemmas.CountLemmas.{base_parts}
use Rattle.cvss_score.proofs.v3_lemmas.NumberLemmas.{approximates}
use Rattle.cvss_score.proofs.v3.weights.Weights.impact.Goals as goal

pub returns-clause-near : goal.returns-clause-near
returns-clause-near c =
    let w = c.args.self.now in
    approximates Fifteen w.changed _ _ _ _ (base_parts w c.requires.tables) c.signed_impact.result (record { equal = omega (arith, ints) })
    (rw c.base_parts.ensures.value at c.signed_impact.ensures.value)
