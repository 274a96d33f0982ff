use Rattle.cvss_triage.proofs.RankLemmas.{reads_none}
use Rattle.cvss_triage.proofs.ranking.Ranking.add_if.Goals as goal

pub returns-in-None : goal.returns-in-None
returns-in-None c = λ lines count read. rw c.in-None.is (reads_none c.args.rules.now lines c.args.self.now.rows.items c.args.self.now.bad.items read)
