-- The arguments of the command in the order in which they are read.
use Rattle.std.specs.Prelude.{ℕ, ◌==◌, Bool, false, List, [], ◌∷◌, ◌++◌, codes, drop, flat_map, take, Option, None, Some, if◌then◌else◌}
use Rattle.std.specs.List.{position}
use Rattle.cvss_subcommands.specs.Flags.{has_value}
use Rattle.cvss_subcommands.specs.Requests.{flag_of, named, word_of}
use Rattle.cvss_subcommands.specs.declared.flags.Flag.{Flag}
use Rattle.cvss_subcommands.specs.declared.ordering.Next.{Next}
use Rattle.cvss_subcommands.specs.declared.ordering.Next.TheVariants.{Any, Value, Operands}
use Rattle.cvss_subcommands.specs.declared.ordering.Role.{Role}
use Rattle.cvss_subcommands.specs.declared.ordering.Role.TheVariants.{Alone, NeedsValue, Joined, End, Operand}
use Rattle.cvss_subcommands.specs.declared.requests.Word.TheVariants as kind
use Rattle.cvss_subcommands.specs.declared.subcommand.Subcommand.{Subcommand}

-- the option has a value
abbrev pub takes_value : Option Flag → Bool
takes_value None = false
takes_value (Some flag) = has_value flag

-- where the first equals sign of a word is, if the text before it is an option with a value
abbrev pub join_index : Subcommand → List ℕ → Option ℕ
join_index subcommand word = elim (position (λ byte. byte == 61) word) [
  | Some index ↦ if takes_value (flag_of subcommand (take index word)) then Some index else None
  | None ↦ None
]

-- an option and its value, or an option that the subcommand does not have
abbrev pub joined_or_alone : Option ℕ → Role
joined_or_alone (Some index) = Joined index
joined_or_alone None = Alone

-- what a word after a subcommand is
abbrev pub role_of : Subcommand → Next → List ℕ → Role
role_of subcommand Any word = elim (word_of subcommand word) [
  | kind.End ↦ End
  | kind.Flag flag ↦ if has_value flag then NeedsValue else Alone
  | kind.Unknown ↦ joined_or_alone (join_index subcommand word)
  | kind.Operand ↦ Operand
  | _ ↦ Alone
]
role_of subcommand Value word = Alone
role_of subcommand Operands word = Operand

-- what may follow a word
abbrev pub next_after : Next → Role → Next
next_after before Alone = Any
next_after before NeedsValue = Value
next_after before (Joined index) = Any
next_after before End = Operands
next_after before Operand = before

-- the words of options and metrics that a word is
abbrev pub option_words_of : Role → List ℕ → List (List ℕ)
option_words_of Alone word = word ∷ []
option_words_of NeedsValue word = word ∷ []
option_words_of (Joined index) word = take index word ∷ drop 1 (drop index word) ∷ []
option_words_of End word = []
option_words_of Operand word = []

-- the operand that a word is, if it is one
abbrev pub operand_words_of : Role → List ℕ → List (List ℕ)
operand_words_of Operand word = word ∷ []
operand_words_of _ word = []

-- each of the words after a subcommand, and what it is
abbrev pub roles : Subcommand → Next → List (List ℕ) → List (Role × List ℕ)
roles subcommand next [] = []
roles subcommand next (word ∷ words) =
    (role_of subcommand next word, word) ∷ roles subcommand (next_after next (role_of subcommand next word)) words

-- what may follow the words
abbrev pub next_after_all : Next → List (Role × List ℕ) → Next
next_after_all next [] = next
next_after_all next (word ∷ words) = next_after_all (next_after next word.0) words

-- `--` and the operands. Nothing follows an option that lacks its value, so that no operand is taken for it.
abbrev pub operands_after : Next → List (List ℕ) → List (List ℕ)
operands_after Value operands = []
operands_after _ operands = codes "--" ∷ operands

-- the options with their values, and metrics
abbrev pub options_in : List (Role × List ℕ) → List (List ℕ)
options_in words = flat_map (λ word. option_words_of word.0 word.1) words

-- the vectors and files
abbrev pub operands_in : List (Role × List ℕ) → List (List ℕ)
operands_in words = flat_map (λ word. operand_words_of word.0 word.1) words

-- options first, and then the operands
abbrev pub in_order : Next → List (Role × List ℕ) → List (List ℕ)
in_order next words = options_in words ++ operands_after (next_after_all next words) (operands_in words)

-- a subcommand, which stays first, and the words after it in order
abbrev pub ordered : Subcommand → List (List ℕ) → List (List ℕ)
ordered subcommand arguments = in_order Value (roles subcommand Value arguments)

-- the arguments of a subcommand in order; others are left as they are
abbrev pub options_first : List (List ℕ) → List (List ℕ)
options_first [] = []
options_first (word ∷ words) = elim (named word) [
  | Some subcommand ↦ ordered subcommand (word ∷ words)
  | None ↦ word ∷ words
]
