use Rattle.std.proofs.Common.{◌≡◌, None, length}
use Rattle.cvss_subcommands.specs.Flags.{no_flags}
use Rattle.cvss_subcommands.specs.Requests.{read_words}
use Rattle.cvss_subcommands.proofs.requests.read_words.Given as goal

abbrev pub invariant-loop-word : goal.invariant-loop-word
invariant-loop-word l = read_words l.subcommand (length l.words) no_flags None l.words ≡ read_words l.subcommand (length l.words) l.flags l.due l.left

abbrev pub decreases-loop-word : goal.decreases-loop-word
decreases-loop-word l = length l.left
