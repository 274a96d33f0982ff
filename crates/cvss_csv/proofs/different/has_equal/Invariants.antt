use Rattle.std.proofs.Common.{All, length}
use Rattle.cvss_csv.specs.Tallies.{IsRead}
use Rattle.cvss_csv.proofs.DifferentLemmas.{HasCompared}
use Rattle.cvss_csv.proofs.different.has_equal.Given as goal

abbrev pub invariant-loop-each : goal.invariant-loop-each
invariant-loop-each l = All IsRead l.fn.kept → IsRead l.fn.found → HasCompared l.fn.kept l.left l.fn.found.text.items

abbrev pub decreases-loop-each : goal.decreases-loop-each
decreases-loop-each l = length l.left
