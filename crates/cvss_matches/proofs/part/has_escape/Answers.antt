use Rattle.cvss_matches.proofs.PassLemmas.{escape_by_first}
use Rattle.cvss_matches.proofs.part.has_escape.Goals as goal

pub returns : goal.returns
returns c = escape_by_first c.args.text.now _ c.either_or_len.ensures
