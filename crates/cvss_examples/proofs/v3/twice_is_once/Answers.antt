use Rattle.std.proofs.Common.{rules}
use Rattle.cvss.specs.VectorV3.{v3}
use Rattle.cvss.specs.Version.{IsWellFormed}
use Rattle.cvss_examples.proofs.TwiceLemmas.{one_text}
use Rattle.cvss_examples.proofs.v3.twice_is_once.Goals as goal

pub returns-clause-same : goal.returns-clause-same
returns-clause-same c =
    let laws = c.texts_denote_one_vector.ensures in
    let texts = one_text v3 (IsWellFormed v3) laws.own laws.one (search rules) c.in_ok-once.ensures.canonical c.in_ok-twice.ensures.canonical in
    search rules
