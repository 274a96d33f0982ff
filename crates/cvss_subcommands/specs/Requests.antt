-- What the arguments of a command ask for, or what is wrong with them.
use Rattle.std.specs.Prelude.{ℕ, suc, ◌+◌, ◌-◌, ◌==◌, ◌&&◌, ◌||◌, Bool, false, not, List, [], ◌∷◌, length, find, codes, Option, Some, None, if◌then◌else◌, bytes_eq}
use Rattle.std.specs.Global.{Vec}
use Rattle.std.specs.List.{list_any, position}
use Rattle.cvss_subcommands.specs.Arguments.{is_option}
use Rattle.cvss_subcommands.specs.Conflicts.{conflict_of}
use Rattle.cvss_subcommands.specs.Flags.{flag_name, no_flags, value_due, with_flag, with_value}
use Rattle.cvss_subcommands.specs.Subcommands.{flags_of, name_of, sets_metrics, subcommands}
use Rattle.cvss_subcommands.specs.declared.flags.Flag.{Flag}
use Rattle.cvss_subcommands.specs.declared.flags.Flag.TheVariants.{Assume, Prefer}
use Rattle.cvss_subcommands.specs.declared.flags.Flags.{Flags}
use Rattle.cvss_subcommands.specs.declared.requests.Request.{Request}
use Rattle.cvss_subcommands.specs.declared.requests.Request.TheVariants.{Help, Version, Wrong, Run}
use Rattle.cvss_subcommands.specs.declared.requests.Word.{Word}
use Rattle.cvss_subcommands.specs.declared.requests.Word.TheVariants as kind
use Rattle.cvss_subcommands.specs.declared.subcommand.Subcommand.{Subcommand}
use Rattle.cvss_subcommands.specs.declared.usage_error.UsageError.{UsageError}
use Rattle.cvss_subcommands.specs.declared.usage_error.UsageError.TheVariants.{NoCommand, NotMetric, NotPreference, NotScore, NoValue, Unexpected, UnknownCommand, UnknownOption, UnknownVersion}

-- the flag of this name that a subcommand has
abbrev pub flag_of : Subcommand → List ℕ → Option Flag
flag_of subcommand word = find (λ flag. bytes_eq word (flag_name flag)) (flags_of subcommand)

-- the option that is known, if it is
abbrev pub option_word : Option Flag → Word
option_word (Some flag) = kind.Flag flag
option_word None = kind.Unknown

-- the word asks for help
abbrev pub is_help : List ℕ → Bool
is_help word = bytes_eq word (codes "--help") || bytes_eq word (codes "-h")

-- the word asks for the version
abbrev pub is_version : List ℕ → Bool
is_version word = bytes_eq word (codes "version") || bytes_eq word (codes "--version") || bytes_eq word (codes "-V")

-- the word has bytes before its first colon, and after it
abbrev pub is_setting : List ℕ → Bool
is_setting word = elim (position (λ byte. byte == 58) word) [
  | Some index ↦ not (index == 0) && not (index + 1 == length word)
  | None ↦ false
]

-- what a word is where metrics are set: a vector or a file if it has a slash, standard input if it is a hyphen
abbrev pub metric_word : List ℕ → Word
metric_word word =
    if list_any (λ byte. byte == 47) word || bytes_eq word (codes "-") then kind.Operand
    else if is_setting word then kind.Metric
    else kind.NotMetric

-- what a word after a subcommand is, where it is no value of an option
abbrev pub word_of : Subcommand → List ℕ → Word
word_of subcommand word =
    if bytes_eq word (codes "--") then kind.End
    else if is_help word then kind.Help
    else if is_option word then option_word (flag_of subcommand word)
    else if sets_metrics subcommand then metric_word word
    else kind.Operand

-- a subcommand after so many words of options and metrics, with these operands
abbrev pub found : Subcommand → Flags → ℕ → List (Vec ℕ) → Request
found subcommand flags words operands = elim (conflict_of subcommand flags operands) [
  | Some error ↦ Wrong error
  | None ↦ Run subcommand (record { flags = flags; words = words; operands = length operands })
]

-- a value that an option cannot have is so many words from the end
abbrev pub value_error : Flag → Subcommand → ℕ → UsageError
value_error Assume subcommand left = UnknownVersion subcommand left
value_error Prefer subcommand left = NotPreference left
value_error _ subcommand left = NotScore subcommand left

-- the words after a subcommand, of which there are so many: options with their values, metrics, and after these or after
-- `--` the operands, which are counted. The option: its value comes first.
abbrev pub read_words : Subcommand → ℕ → Flags → Option Flag → List (Vec ℕ) → Request
read_words subcommand count flags (Some flag) [] = Wrong (NoValue subcommand)
read_words subcommand count flags None [] = found subcommand flags count []
read_words subcommand count flags (Some flag) (value ∷ words) = elim (with_value flag value.items flags) [
  | Some given ↦ read_words subcommand count given None words
  | None ↦ Wrong (value_error flag subcommand (suc (length words)))
]
read_words subcommand count flags None (word ∷ words) = elim (word_of subcommand word.items) [
  | kind.End ↦ found subcommand flags (count - suc (length words)) words
  | kind.Help ↦ Help (Some subcommand)
  | kind.Flag flag ↦ read_words subcommand count (with_flag flag flags) (value_due flag) words
  | kind.Unknown ↦ Wrong (UnknownOption (Some subcommand) (suc (length words)))
  | kind.Metric ↦ read_words subcommand count flags None words
  | kind.NotMetric ↦ Wrong (NotMetric (suc (length words)))
  | kind.Operand ↦ found subcommand flags (count - suc (length words)) (word ∷ words)
]

-- the subcommand of this name
abbrev pub named : List ℕ → Option Subcommand
named word = find (λ subcommand. bytes_eq word (name_of subcommand)) subcommands

-- the help on a subcommand
abbrev pub help_on : Option Subcommand → Request
help_on (Some subcommand) = Help (Some subcommand)
help_on None = Wrong (UnknownCommand 1)

-- the words after `help`
abbrev pub help_request : List (Vec ℕ) → Request
help_request [] = Help None
help_request (word ∷ []) = if bytes_eq word.items (codes "help") || bytes_eq word.items (codes "version") then Help None else help_on (named word.items)
help_request (word ∷ next ∷ words) = Wrong (Unexpected (suc (length words)))

-- nothing more is understood after a word
abbrev pub alone : Request → List (Vec ℕ) → Request
alone request [] = request
alone request (word ∷ words) = Wrong (Unexpected (suc (length words)))

-- the first word, where it is no subcommand, and the words after it
abbrev pub other_request : List ℕ → List (Vec ℕ) → Request
other_request word words =
    if bytes_eq word (codes "help") then help_request words
    else if is_help word then alone (Help None) words
    else if is_version word then alone Version words
    else if is_option word then Wrong (UnknownOption None (suc (length words)))
    else Wrong (UnknownCommand (suc (length words)))

-- what all arguments ask for
abbrev pub request_of : List (Vec ℕ) → Request
request_of [] = Wrong NoCommand
request_of (word ∷ words) = elim (named word.items) [
  | Some subcommand ↦ read_words subcommand (length words) no_flags None words
  | None ↦ other_request word.items words
]
