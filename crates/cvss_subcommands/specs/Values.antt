-- The options that have values, with their values.
use Rattle.std.specs.Prelude.{ℕ, List, [], ◌∷◌, Option, None, Some, option_and_then}
use Rattle.std.specs.Global.{Vec}
use Rattle.cvss_subcommands.specs.Flags.{value_due}
use Rattle.cvss_subcommands.specs.Requests.{flag_of}
use Rattle.cvss_subcommands.specs.declared.flags.Flag.{Flag}
use Rattle.cvss_subcommands.specs.declared.subcommand.Subcommand.{Subcommand}

-- the option whose value comes after a word, if it is one
abbrev pub due_after : Subcommand → List ℕ → Option Flag
due_after subcommand word = option_and_then value_due (flag_of subcommand word)

-- each option that has a value among words, with that value; the first word is the value of an option, if one is due
abbrev pub values_after : Subcommand → Option Flag → List (Vec ℕ) → List (Flag × List ℕ)
values_after subcommand due [] = []
values_after subcommand (Some flag) (word ∷ words) = (flag, word.items) ∷ values_after subcommand None words
values_after subcommand None (word ∷ words) = values_after subcommand (due_after subcommand word.items) words

-- among the words of options
abbrev pub values_of : Subcommand → List (Vec ℕ) → List (Flag × List ℕ)
values_of subcommand words = values_after subcommand None words
