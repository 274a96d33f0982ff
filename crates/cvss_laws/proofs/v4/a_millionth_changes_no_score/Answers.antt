use Rattle.cvss_score.proofs.v4_lemmas.ScoreLawLemmas.{lifted_score}
use Rattle.cvss_laws.proofs.v4.a_millionth_changes_no_score.Goals as goal

pub returns : goal.returns
returns c = lifted_score
