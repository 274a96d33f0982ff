use Rattle.std.proofs.Common.{refl}
use Rattle.cvss_score.proofs.v4_lemmas.GroupLemmas.{eq5}
use Rattle.cvss_score.proofs.v4_lemmas.ShareLemmas.{terms_are}
use Rattle.cvss_score.proofs.v4.scoring.shares.eq5_terms.Goals as goal

pub returns : goal.returns
returns c = terms_are eq5 c.args.values.now _ c.eq5_next.ensures.next c.eq5_next.ensures.listed refl refl
