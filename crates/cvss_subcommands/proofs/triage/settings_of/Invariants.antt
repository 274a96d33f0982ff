use Rattle.std.proofs.Common.{◌≡◌, ◌++◌, filter_map, length, map}
use Rattle.cvss_subcommands.specs.Triaging.{setting_of, settings_of}
use Rattle.cvss_subcommands.specs.Values.{values_of}
use Rattle.cvss_triage.specs.Settings.{as_words}
use Rattle.cvss_subcommands.proofs.triage.settings_of.Given as goal

-- what is set so far, and what the values that are left set, is what all do
abbrev pub invariant-loop-flag : goal.invariant-loop-flag
invariant-loop-flag l =
    map as_words l.settings.items ++ filter_map setting_of (values_of l.values.subcommand l.values.words.now) ≡ settings_of l.fn.words

abbrev pub decreases-loop-flag : goal.decreases-loop-flag
decreases-loop-flag l = length (values_of l.values.subcommand l.values.words.now)
