use Rattle.std.proofs.Common.{ap, sym, ◌∙◌}
use Rattle.cvss_csv.specs.Records.{is_open}
use Rattle.cvss_csv.proofs.ReadingLemmas.{ended_is_closed}
use Rattle.cvss_csv.proofs.record.CutRecord.ended.Goals as goal

pub returns-clause-unclosed : goal.returns-clause-unclosed
returns-clause-unclosed c = sym (ap is_open c.cut_line_end.ensures.body ∙ ended_is_closed c.args.piece.now c.requires)
