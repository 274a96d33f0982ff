-- What may help with a rejected vector that is a word of the command line. The prefixes are those of the v3.1
-- specification, section 6, and the v4.0 specification, section 7.
use Rattle.std.specs.Prelude.{◌≡◌, ◌⊎◌, ℕ, ◌-◌, Bool, not, List, [], ◌∷◌, codes, drop, length, map, take, Option, None, IsSomeAnd, if◌then◌else◌}
use Rattle.std.specs.Char.{is_ascii_alphanumeric, to_ascii_lowercase}
use Rattle.std.specs.Global.{Vec}
use Rattle.std.specs.List.{suffix_len}
use Rattle.std.specs.Str.{IsUtf8}
use Rattle.cvss_matches.specs.declared.hint.PrefixHint.{PrefixHint}
use Rattle.cvss_matches.specs.declared.hint.PrefixHint.TheVariants.{Loose, MissingV31, MissingV40}
use Rattle.cvss_frame.specs.Sources.{source_of}
use Rattle.cvss_frame.specs.declared.sources.Source.TheVariants.{Vector}
use Rattle.cvss_subcommands.specs.declared.hint.Hint.{Hint}
use Rattle.cvss_subcommands.specs.declared.hint.Hint.TheVariants.{Version, VersionV40, Capitals, Alone}
use Rattle.cvss_vector.specs.Complete.{first_missing}
use Rattle.cvss_vector.specs.Dispatch.{DenotesCvss}
use Rattle.cvss_vector.specs.Setting.{IsBuiltAs, text_with}
use Rattle.cvss_vector.specs.declared.setting.Version as version
use Rattle.cvss_vector.specs.declared.setting.Version.TheVariants.{V30, V31, V40}
use Rattle.cvss_vector.specs.declared.vector.Cvss.{Cvss}

-- the text denotes a vector
pub record IsVector (text : List ℕ) : Type 0 where
  pub cvss : Cvss
  pub denoted : DenotesCvss text cvss

-- the text denotes a vector that lacks no base metric
pub record IsComplete (text : List ℕ) : Type 0 where
  pub cvss : Cvss
  pub denoted : DenotesCvss text cvss
  pub complete : first_missing cvss ≡ None

-- the components of a text make a vector of a version that lacks no base metric
pub record MakeComplete (of : version.Version) (metrics : List ℕ) : Type 0 where
  pub utf8 : IsUtf8 metrics
  pub cvss : Cvss
  pub built : IsBuiltAs of metrics cvss
  pub complete : first_missing cvss ≡ None

-- the text is the prefix of a version in some case, and then metrics that make such a vector
pub record IsPrefixed (of : version.Version) (text : List ℕ) : Type 0 where
  pub prefix : map to_ascii_lowercase (take 9 text) ≡ map to_ascii_lowercase (text_with of [])
  pub metrics : MakeComplete of (drop 9 text)

-- the byte is no ASCII letter or digit
abbrev pub is_mark : ℕ → Bool
is_mark byte = not (is_ascii_alphanumeric byte)

-- the text from its first letter or digit on
abbrev pub without_front : List ℕ → List ℕ
without_front [] = []
without_front (byte ∷ bytes) = if is_mark byte then without_front bytes else byte ∷ bytes

-- the text to its last letter or digit
abbrev pub without_back : List ℕ → List ℕ
without_back text = take (length text - suffix_len is_mark text) text

-- when a hint holds for a text: its components make a vector of v3.1, or of v4.0; or it is one but for the case of its prefix; or
-- it is one between its first letter or digit and its last. Each lacks no base metric.
abbrev pub Holds : Hint → List ℕ → Type 0
Holds Version text = MakeComplete V31 text
Holds VersionV40 text = MakeComplete V40 text
Holds Capitals text = IsPrefixed V30 text ⊎ IsPrefixed V31 text ⊎ IsPrefixed V40 text
Holds Alone text = IsComplete (without_back (without_front text))

-- the word is given as a vector, and is none
pub record IsRejected (word : List ℕ) : Type 0 where
  pub is_given : source_of word ≡ Vector
  pub is_none : ¬ (IsVector word)

-- a hint holds for a word that is rejected
pub record IsHinted (word : List ℕ) (hint : Hint) : Type 0 where
  pub rejected : IsRejected word
  pub holds : Holds hint word

-- no hint does
abbrev pub HasNoHint : List ℕ → Type 0
HasNoHint word = (hint : Hint) → ¬ (IsHinted word hint)

-- a hint for the first of the words that has one
abbrev pub IsFirstHint : List (Vec ℕ) → Option Hint → Type 0
IsFirstHint [] hint = hint ≡ None
IsFirstHint (word ∷ words) hint =
    IsSomeAnd hint (IsHinted word.items) ⊎ (HasNoHint word.items × IsFirstHint words hint)

-- what a hint says
abbrev pub hint_text : Hint → List ℕ
hint_text Version = codes "cvss: hint: write `CVSS:3.1/` before it\n"
hint_text VersionV40 = codes "cvss: hint: write `CVSS:4.0/` before it\n"
hint_text Capitals = codes "cvss: hint: write its prefix in capitals, as `CVSS:3.1/`\n"
hint_text Alone = codes "cvss: hint: `cvss find` finds vectors among other text\n"

-- what the hint of `cvss find` says, for vectors whose prefix is written in another way, or missing
abbrev pub prefix_hint : PrefixHint → List ℕ
prefix_hint Loose = codes "cvss: hint: write the prefix of a vector as `CVSS:3.1/`\n"
prefix_hint MissingV31 = codes "cvss: hint: write `CVSS:3.1/` before a vector of v3.1, or use --assume=3.1\n"
prefix_hint MissingV40 = codes "cvss: hint: write `CVSS:4.0/` before a vector of v4.0\n"
