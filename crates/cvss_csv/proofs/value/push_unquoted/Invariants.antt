use Rattle.std.proofs.Common.{◌≡◌, ◌++◌, length}
use Rattle.cvss_csv.specs.Fields.{unquoted}
use Rattle.cvss_csv.proofs.value.push_unquoted.Given as goal

abbrev pub invariant-loop-run : goal.invariant-loop-run
invariant-loop-run l = l.text.items ++ unquoted l.rest ≡ l.fn.text.items ++ unquoted l.fn.inner

abbrev pub decreases-loop-run : goal.decreases-loop-run
decreases-loop-run l = length l.rest
