use Rattle.cvss_matches.proofs.line.Line.score_of_text.Goals as goal

pub returns : goal.returns
returns c = rw c.deciding-scoring.ensures at c.score_of-score.ensures
