use Rattle.std.proofs.Common.{rules}
use Rattle.cvss.specs.VectorV2.{v2}
use Rattle.cvss.specs.Version.{IsComplete}
use Rattle.cvss_examples.proofs.TwiceLemmas.{one_text}
use Rattle.cvss_examples.proofs.v2.twice_is_once.Goals as goal

pub returns-clause-same : goal.returns-clause-same
returns-clause-same c =
    let laws = c.texts_denote_one_vector.ensures in
    let texts = one_text v2 (IsComplete v2) laws.own laws.one (search rules) c.in_ok-once.ensures.canonical c.in_ok-twice.ensures.canonical in
    search rules
