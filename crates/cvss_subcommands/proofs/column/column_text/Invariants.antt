use Rattle.std.proofs.Common.{◌≡◌, length, option_copied}
use Rattle.cvss_subcommands.specs.Columns.{column_after, column_text}
use Rattle.cvss_subcommands.specs.Values.{values_of}
use Rattle.cvss_subcommands.proofs.column.column_text.Given as goal

-- the values that are left say the same column as all
abbrev pub invariant-loop-flag : goal.invariant-loop-flag
invariant-loop-flag l =
    column_after (option_copied l.found) (values_of l.values.subcommand l.values.words.now) ≡ column_text l.fn.subcommand l.fn.words

abbrev pub decreases-loop-flag : goal.decreases-loop-flag
decreases-loop-flag l = length (values_of l.values.subcommand l.values.words.now)
