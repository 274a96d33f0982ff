use Rattle.std.proofs.Common.{◌≡◌, length}
use Rattle.cvss_subcommands.specs.Values.{values_of}
use Rattle.cvss_subcommands.proofs.values.Values.take_next.Given as goal

-- the words that are passed have no value
abbrev pub invariant-loop-word : goal.invariant-loop-word
invariant-loop-word l = values_of l.fn.self.subcommand l.fn.self.words.now ≡ values_of l.self.subcommand l.self.words.now

abbrev pub decreases-loop-word : goal.decreases-loop-word
decreases-loop-word l = length l.self.words.now
