use Rattle.std.proofs.Common.{◌≡◌, map, take}
use Rattle.cvss_triage.specs.Settings.{all_given, as_metrics}
use Rattle.cvss_triage.proofs.overrides.overrides_of.Given as goal

abbrev pub invariant-loop-text : goal.invariant-loop-text
invariant-loop-text l = map as_metrics l.overrides.items ≡ all_given (take l.text-index l.fn.texts)
