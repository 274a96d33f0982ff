use Rattle.std.specs.Prelude.{take}
use Rattle.cvss_triage.specs.private.Steps.{IsReadBy, rows_of}
use Rattle.cvss_triage.proofs.ranking.Ranking.in_turn.Given as goal

abbrev pub invariant-loop-index : goal.invariant-loop-index
invariant-loop-index l = IsReadBy l.fn.rules (take l.index (rows_of l.fn.lines)) l.ranking.rows.items l.ranking.bad.items
