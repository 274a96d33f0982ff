use Rattle.std.proofs.Common.{◌∙◌}
use Rattle.cvss_audit.proofs.ScoreLemmas.{number_is}
use Rattle.cvss_audit.proofs.expected.scores.score_value.Goals as goal

pub returns : goal.returns
returns c = c.from.ensures ∙ number_is c.args.tenths c.score_number.result c.ranges.tenths.fits c.score_number.ensures
