use Rattle.std.proofs.Common.{ap, arith, lit<}
use Rattle.std.proofs.lemmas.Int.{ints}
use Rattle.cvss_base.proofs.ExactLemmas.{equal_trans}
use Rattle.cvss_score.proofs.v3_lemmas.CountLemmas.{modified_parts}
use Rattle.cvss_score.proofs.v3.weights.Weights.miss.Goals as goal

pub returns-clause-value : goal.returns-clause-value
returns-clause-value c =
    equal_trans (lit< tt) (record { equal = omega (arith, ints, ap (λ p. p.sub_score) c.modified_parts.ensures.value) }) (modified_parts c.args.self.now c.requires.tables).is_S
