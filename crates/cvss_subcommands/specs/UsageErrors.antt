-- What is reported of arguments that are not understood: one line, which says where help is. What it quotes has escapes.
use Rattle.std.specs.Prelude.{ℕ, List, [], ◌∷◌, ◌++◌, codes, Option, None, Some}
use Rattle.std.specs.Global.{Vec}
use Rattle.cvss_frame.specs.Reports.{Reported, Reports, ReportsAbout}
use Rattle.cvss_subcommands.specs.Arguments.{operands_of}
use Rattle.cvss_subcommands.specs.Flags.{flag_name}
use Rattle.cvss_subcommands.specs.Subcommands.{name_of}
use Rattle.cvss_subcommands.specs.declared.flags.Flag.{Flag}
use Rattle.cvss_subcommands.specs.declared.flags.Flag.TheVariants.{Annotate, Assume, Count, FailOn, Guard, Header, Json, Min, Quiet, Standard}
use Rattle.cvss_subcommands.specs.declared.subcommand.Subcommand.{Subcommand}
use Rattle.cvss_subcommands.specs.declared.subcommand.Subcommand.TheVariants.{Diff, Score, Set, Triage}
use Rattle.cvss_subcommands.specs.declared.usage_error.UsageError.{UsageError}
use Rattle.cvss_subcommands.specs.declared.usage_error.UsageError.TheVariants.{NoCommand, UnknownCommand, UnknownOption, Unexpected, NoValue, UnknownVersion, NotMetric, NoMetric, NotScore, NotPreference, NotTwo, NotUtf8, NotWith, NotForVectors, AllScores, NeedsTable, NeedsJson}

-- the first of words, or an empty one
abbrev pub first_word : List (Vec ℕ) → List ℕ
first_word [] = []
first_word (word ∷ words) = word.items

-- the first of the last so many arguments
abbrev pub word_at : ℕ → List (Vec ℕ) → List ℕ
word_at left arguments = first_word (operands_of left arguments)

-- the command that prints the help on a subcommand, or on all
abbrev pub help_command : Option Subcommand → List ℕ
help_command None = codes "cvss help"
help_command (Some subcommand) = codes "cvss help " ++ name_of subcommand

-- what is said of an option that does not go with another
abbrev pub not_with_text : Flag → List ℕ
not_with_text Json = codes "' does not go with --json; see '"
not_with_text Standard = codes "' does not go with --standard; see '"
not_with_text Count = codes "' does not go with --count; see '"
not_with_text Min = codes "' does not go with --min; see '"
not_with_text FailOn = codes "' does not go with --fail-on; see '"
not_with_text Quiet = codes "' does not go with --quiet; see '"
not_with_text Annotate = codes "' does not go with --annotate; see '"
not_with_text Assume = codes "' does not go with --assume; see '"
not_with_text Header = codes "' does not go with --header; see '"
not_with_text _ = codes "' does not go with --tsv; see '"

-- what is said of an option that needs a table
abbrev pub needs_text : Subcommand → Flag → List ℕ
needs_text Score Guard = codes "' needs --csv or --tsv; see '"
needs_text _ _ = codes "' needs --csv; see '"

-- what is said before the word that a line is about
abbrev pub before_word : UsageError → List ℕ
before_word (UnknownCommand left) = codes "cvss: unknown command '"
before_word (UnknownOption topic left) = codes "cvss: unknown option '"
before_word (Unexpected left) = codes "cvss: unexpected argument '"
before_word (UnknownVersion subcommand left) = codes "cvss: unknown version '"
before_word (NotScore subcommand left) = codes "cvss: '"
before_word (NotPreference left) = codes "cvss: '"
before_word (NotMetric left) = codes "cvss: '"
before_word NoMetric = codes "cvss: no metric to set"
before_word NotUtf8 = codes "cvss: a metric is not UTF-8"
before_word NotTwo = codes "cvss: two vectors are compared"
before_word (AllScores subcommand flag) = codes "cvss: --base does not go with '"
before_word _ = codes "cvss: option '"

-- what is said after it, before the command that prints the help
abbrev pub after_word : UsageError → List ℕ
after_word (NoValue subcommand) = codes "' needs a value; see '"
after_word (NotScore subcommand left) = codes "' is not a score or a severity; see '"
after_word (NotPreference left) = codes "' is not 4.0, 3.1, 3.0, 2.0 or highest; see '"
after_word (NotMetric left) = codes "' is not METRIC:VALUE; see '"
after_word NoMetric = codes "; see '"
after_word NotUtf8 = codes "; see '"
after_word NotTwo = codes "; see '"
after_word (AllScores subcommand flag) = codes "', which prints all scores; see '"
after_word (NeedsTable subcommand flag) = needs_text subcommand flag
after_word (NotWith subcommand flag other) = not_with_text other
after_word (NotForVectors subcommand flag) = codes "' is for files and standard input; see '"
after_word (NeedsJson subcommand flag) = codes "' needs --json; see '"
after_word _ = codes "'; see '"

-- the subcommand whose help is named, or none where it is the help on all
abbrev pub topic_of : UsageError → Option Subcommand
topic_of NoCommand = None
topic_of (UnknownCommand left) = None
topic_of (Unexpected left) = None
topic_of (UnknownOption topic left) = topic
topic_of (NotPreference left) = Some Triage
topic_of (NotMetric left) = Some Set
topic_of NoMetric = Some Set
topic_of NotUtf8 = Some Set
topic_of NotTwo = Some Diff
topic_of (NoValue subcommand) = Some subcommand
topic_of (UnknownVersion subcommand left) = Some subcommand
topic_of (NotScore subcommand left) = Some subcommand
topic_of (AllScores subcommand flag) = Some subcommand
topic_of (NeedsTable subcommand flag) = Some subcommand
topic_of (NotWith subcommand flag other) = Some subcommand
topic_of (NotForVectors subcommand flag) = Some subcommand
topic_of (NeedsJson subcommand flag) = Some subcommand

-- the word that the line is about: an argument, or an option
abbrev pub word_of : UsageError → List (Vec ℕ) → List ℕ
word_of (UnknownCommand left) arguments = word_at left arguments
word_of (UnknownOption topic left) arguments = word_at left arguments
word_of (Unexpected left) arguments = word_at left arguments
word_of (NoValue subcommand) arguments = word_at 1 arguments
word_of (UnknownVersion subcommand left) arguments = word_at left arguments
word_of (NotScore subcommand left) arguments = word_at left arguments
word_of (NotPreference left) arguments = word_at left arguments
word_of (NotMetric left) arguments = word_at left arguments
word_of (AllScores subcommand flag) arguments = flag_name flag
word_of (NeedsTable subcommand flag) arguments = flag_name flag
word_of (NotWith subcommand flag other) arguments = flag_name flag
word_of (NotForVectors subcommand flag) arguments = flag_name flag
word_of (NeedsJson subcommand flag) arguments = flag_name flag
word_of _ arguments = []

-- a line is reported about the word, with the command that prints the help
abbrev pub ReportsLine : UsageError → List (Vec ℕ) → Reported → Reported → Type 0
ReportsLine error arguments old new =
    ReportsAbout (before_word error) (word_of error arguments) (after_word error ++ (help_command (topic_of error) ++ codes "'\n")) old new

-- without an argument the general help is reported, else a line
abbrev pub ReportsUsage : List ℕ → UsageError → List (Vec ℕ) → Reported → Reported → Type 0
ReportsUsage usage NoCommand arguments old new = Reports old new usage
ReportsUsage usage error arguments old new = ReportsLine error arguments old new
