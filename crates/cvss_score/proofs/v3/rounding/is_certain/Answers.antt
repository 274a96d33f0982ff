use Rattle.cvss_score.proofs.v3_lemmas.NumberLemmas.{base_certain, environmental_certain}
use Rattle.cvss_score.proofs.v3.rounding.is_certain.Goals as goal

pub returns-clause-base : goal.returns-clause-base
returns-clause-base c = λ _. base_certain

pub returns-clause-environmental : goal.returns-clause-environmental
returns-clause-environmental c = λ _. environmental_certain
