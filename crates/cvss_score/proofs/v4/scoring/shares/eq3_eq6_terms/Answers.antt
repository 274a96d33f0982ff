use Rattle.std.proofs.Common.{refl}
use Rattle.cvss_score.proofs.v4_lemmas.GroupLemmas.{eq3_eq6}
use Rattle.cvss_score.proofs.v4_lemmas.ShareLemmas.{from_constant, terms_are}
use Rattle.cvss_score.proofs.v4.scoring.shares.eq3_eq6_terms.Goals as goal

pub overflow_sub-result : goal.overflow_sub-result
overflow_sub-result c = rw c.min-class.ensures (from_constant eq3_eq6 c.args.values.now)

pub returns : goal.returns
returns c =
    rw c.min-class.ensures (terms_are eq3_eq6 c.args.values.now _ c.eq3_eq6_next.ensures.next c.eq3_eq6_next.ensures.listed refl refl)
