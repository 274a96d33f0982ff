use Rattle.std.proofs.Common.{refl}
use Rattle.cvss_score.proofs.v4_lemmas.GroupLemmas.{eq2}
use Rattle.cvss_score.proofs.v4_lemmas.ShareLemmas.{from_constant, terms_are}
use Rattle.cvss_score.proofs.v4.scoring.shares.eq2_terms.Goals as goal

pub overflow_sub-result : goal.overflow_sub-result
overflow_sub-result c = from_constant eq2 c.args.values.now

pub returns : goal.returns
returns c = terms_are eq2 c.args.values.now _ c.eq2_next.ensures.next c.eq2_next.ensures.listed refl refl
