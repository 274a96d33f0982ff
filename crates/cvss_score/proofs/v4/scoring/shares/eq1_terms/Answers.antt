use Rattle.std.proofs.Common.{refl}
use Rattle.cvss_score.proofs.v4_lemmas.GroupLemmas.{eq1}
use Rattle.cvss_score.proofs.v4_lemmas.ShareLemmas.{from_constant, terms_are}
use Rattle.cvss_score.proofs.v4.scoring.shares.eq1_terms.Goals as goal

pub overflow_sub-result : goal.overflow_sub-result
overflow_sub-result c = from_constant eq1 c.args.values.now

pub returns : goal.returns
returns c = terms_are eq1 c.args.values.now _ c.eq1_next.ensures.next c.eq1_next.ensures.listed refl refl
