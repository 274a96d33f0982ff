-- The lines that `cvss score` prints: the line of one text, and those of many texts, which are lines ended by a byte 10.
use Rattle.std.specs.Prelude.{◌≡◌, ◌≢◌, ◌⊎◌, ℕ, ◌+◌, ◌<◌, All, List, [], ◌∷◌, ◌++◌, length, flat_map}
use Rattle.cvss_lines.specs.Lines.{line_text}
use Rattle.cvss_vector.specs.Lines as lines
use Rattle.cvss_vector.specs.declared.scoring.Scoring.TheVariants.{Overall}
use Rattle.cvss_ffi.specs.Accepted.{IsRejected, may_lack}
use Rattle.cvss_ffi.specs.Buffer.{HasPut}

-- the line of a text: its vector's canonical text, overall score and severity, or the word error and the message
abbrev pub IsScoreLine : ℕ → List ℕ → List ℕ → Type 0
IsScoreLine flags text line =
    lines.IsAnswerOf Overall (lines.IsVectorOf (may_lack flags) text) line
    ⊎ (IsRejected flags text × lines.IsRejection (may_lack flags) text line)

-- no line ends in these bytes
abbrev pub HasNoEnd : List ℕ → Type 0
HasNoEnd bytes = All (λ byte. byte ≢ 10) bytes

-- a line, and the byte that ends it
abbrev pub ended : List ℕ → List ℕ
ended line = line ++ 10 ∷ []

-- the score line of the text of a line
pub record IsLineOf (flags : ℕ) (given line : List ℕ) : Type 0 where
  pub one_line : HasNoEnd given
  pub is : IsScoreLine flags (line_text given) line

-- the one are lines, each ended, and the other their score lines, each ended, in the same order
pub record AreScoreLines (flags : ℕ) (given lines : List ℕ) : Type 0 where
  pub pairs : List (List ℕ × List ℕ)
  pub each : All (λ pair. IsLineOf flags pair.0 pair.1) pairs
  pub given_are : given ≡ flat_map (λ pair. ended pair.0) pairs
  pub lines_are : lines ≡ flat_map (λ pair. ended pair.1) pairs

-- the score line of the next line has no room after so many bytes
pub record HasNoRoom (flags : ℕ) (texts : List ℕ) (size written : ℕ) : Type 0 where
  pub next : List ℕ
  pub after : List ℕ
  pub texts_are : texts ≡ next ++ 10 ∷ after
  pub line : List ℕ
  pub is : IsLineOf flags next line
  pub large : size < written + length (ended line)

-- the score lines of the lines before this rest are at the beginning of the buffer, which after them is as it was
pub record HasWritten (flags : ℕ) (texts rest old now : List ℕ) (written : ℕ) : Type 0 where
  pub given : List ℕ
  pub texts_are : texts ≡ given ++ rest
  pub lines : List ℕ
  pub are : AreScoreLines flags given lines
  pub put : HasPut old lines now written

-- so many bytes are read, and the score lines of all lines written until none ends any more, or the next has no room
pub record WritesScoreLines (flags : ℕ) (texts old now : List ℕ) (read written : ℕ) : Type 0 where
  pub rest : List ℕ
  pub done : HasWritten flags texts rest old now written
  pub read_is : read + length rest ≡ length texts
  pub last : HasNoEnd rest ⊎ HasNoRoom flags rest (length old) written
