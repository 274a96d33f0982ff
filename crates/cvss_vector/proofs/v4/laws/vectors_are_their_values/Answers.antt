use Rattle.std.proofs.Common.{rules, arith}
use Rattle.cvss_base.specs.declared.v4.MetricType.TheVariants.{AC}
use Rattle.cvss_text.proofs.EqualLemmas.{Reporting, comparisons}
use Rattle.cvss_vector.specs.contracts.v4.vector.VectorEq.TheImpl.Laws.{laws-law}
use Rattle.cvss_vector.proofs.v4.laws.vectors_are_their_values.Goals as goal

pub returns-clause-equality : goal.returns-clause-equality
returns-clause-equality c = λ left right. (
  λ equal. let facts = Reporting.fact (search comparisons depth 60 fits 4000) equal in grind arith,
  λ same. let own = laws-law.refl left in cc,
)

pub returns-clause-default : goal.returns-clause-default
returns-clause-default c = λ vector empty. elim [ AC ↦ search rules | _ ↦ search rules ]
