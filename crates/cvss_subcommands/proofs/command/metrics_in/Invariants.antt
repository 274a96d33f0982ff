use Rattle.std.proofs.Common.{◌≡◌, take}
use Rattle.cvss_subcommands.specs.Arguments.{metrics_in}
use Rattle.cvss_subcommands.proofs.command.metrics_in.Given as goal

abbrev pub invariant-loop-word : goal.invariant-loop-word
invariant-loop-word l = l.bytes.items ≡ metrics_in (take l.word-index l.words)
