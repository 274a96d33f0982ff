-- How help texts begin.
use Rattle.std.specs.Prelude.{ℕ, List, ◌++◌, codes, Option, None, Some}
use Rattle.cvss_subcommands.specs.declared.subcommand.Subcommand.{Subcommand}
use Rattle.cvss_subcommands.specs.declared.subcommand.Subcommand.TheVariants.{Score, Find, Explain, Set, Triage, Audit, Diff}

-- the usage of a subcommand
abbrev pub usage_of : Subcommand → List ℕ
usage_of Score =
    codes "cvss score [--json|--tsv|--csv [--column C]|[--standard] [--count]]\n"
    ++ codes "                  [--guard] [--base] [--min SCORE] [--fail-on SCORE] [--quiet]\n"
    ++ codes "                  [--allow-incomplete] [VECTOR|FILE].."
usage_of Find =
    codes "cvss find [--json|--csv [--column C]|--annotate [--all]|--count]\n"
    ++ codes "                 [--guard] [--base] [--min SCORE] [--fail-on SCORE] [--quiet]\n"
    ++ codes "                 [--allow-incomplete] [--assume 3.0|3.1] [FILE].."
usage_of Explain = codes "cvss explain [--json|--what-if] [--allow-incomplete] [VECTOR|FILE].."
usage_of Set = codes "cvss set METRIC:VALUE.. [--base] [--allow-incomplete] [VECTOR|FILE].."
usage_of Triage =
    codes "cvss triage [--set METRIC:VALUE].. [--profile FILE].. [--keep-going]\n"
    ++ codes "                   [--csv [--column C] [--guard]|[--header] [--json|--count]]\n"
    ++ codes "                   [--prefer VERSION|highest] [--quiet] [--base] [--min SCORE]\n"
    ++ codes "                   [--fail-on SCORE] [--allow-incomplete] [VECTOR|FILE].."
usage_of Audit =
    codes "cvss audit [--json [--differing]|--count] [--min SCORE]\n"
    ++ codes "                  [--fail-on SCORE] [--quiet] [--allow-incomplete]\n"
    ++ codes "                  [--document] [FILE].."
usage_of Diff = codes "cvss diff [--base] [--allow-incomplete] VECTOR VECTOR"

-- the help on a subcommand begins with its usage, and an empty line; the help on all, with how a command is given
abbrev pub help_start : Option Subcommand → List ℕ
help_start None = codes "usage: cvss COMMAND [OPTION].. [VECTOR|FILE]..\n"
help_start (Some subcommand) = codes "usage: " ++ usage_of subcommand ++ codes "\n\n"
