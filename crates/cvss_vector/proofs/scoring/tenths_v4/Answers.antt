use Rattle.std.proofs.Common.{⊎_elim}
use Rattle.cvss_vector.proofs.scoring.tenths_v4.Goals as goal

pub returns-in-Published : goal.returns-in-Published
returns-in-Published c = record {
  value = ⊎_elim (λ is. rw is c.tenths.ensures.value) (λ is. rw is c.tenths.ensures.value) c.in-Published.is;
  bound = c.tenths.ensures.range;
}

pub returns-in-Base-clause-value : goal.returns-in-Base-clause-value
returns-in-Base-clause-value c = rw c.in-Base.is c.base_v4.ensures.value
