use Rattle.std.proofs.Common.{◌≡◌, ◌++◌, length, map}
use Rattle.cvss_triage.specs.Settings.{as_metrics, profile}
use Rattle.cvss_triage.proofs.overrides.push_profile.Given as goal

abbrev pub invariant-loop-line : goal.invariant-loop-line
invariant-loop-line l =
    map as_metrics l.overrides.items ++ profile l.left ≡ map as_metrics l.fn.overrides.items ++ profile l.fn.text

abbrev pub decreases-loop-line : goal.decreases-loop-line
decreases-loop-line l = length l.left
