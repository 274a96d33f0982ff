use Rattle.cvss_score.proofs.v3_lemmas.LawLemmas.{base_score_once}
use Rattle.cvss_laws.proofs.v3.UniqueLemmas.{temporal_score_once, environmental_score_once}
use Rattle.cvss_laws.proofs.v3.scores_are_unique.Goals as goal

pub returns : goal.returns
returns c = record { base = base_score_once; temporal = temporal_score_once; environmental = environmental_score_once }
