use Rattle.std.proofs.Common.{Option, length}
use Rattle.cvss_subcommands.specs.Hints.{IsFirstHint}
use Rattle.cvss_subcommands.specs.declared.hint.Hint.{Hint}
use Rattle.cvss_subcommands.proofs.hint.first_hint.Given as goal

-- the hint for the words that are left is that for all
abbrev pub invariant-loop-word : goal.invariant-loop-word
invariant-loop-word l = (hint : Option Hint) → IsFirstHint l.left hint → IsFirstHint l.words hint

abbrev pub decreases-loop-word : goal.decreases-loop-word
decreases-loop-word l = length l.left
