-- How a file holds its documents: one a line, or one in all; and how it ends to answer it.
use Rattle.std.specs.Prelude.{◌≡◌, ◌≢◌, ◌⊎◌, ℕ, ◌==◌, ◌||◌, ◌&&◌, Bool, true, false, All, List, [], ◌∷◌, ◌++◌, if◌then◌else◌, is_some, length, Option, Some, None, Result, IsErrOf, ⊤}
use Rattle.std.specs.Io.KnownBytes.{Consumes, IsAtEnd, Keeps}
use Rattle.std.specs.Str.{is_utf8}
use Rattle.cvss_audit.specs.Answers.{BeginsLine, IsLineAnswer, is_blank}
use Rattle.cvss_audit.specs.Inputs.{Input}
use Rattle.cvss_audit.specs.Whole.{WholeEnds}
use Rattle.cvss_lines.specs.Streaming.{StreamEnds}
use Rattle.cvss_frame.specs.Operands.{Ending}
use Rattle.cvss_lines.specs.declared.fault.RunFault.{RunFault}
use Rattle.cvss_lines.specs.declared.fault.RunFault.TheVariants.{Read, Memory}
use Rattle.cvss_lines.specs.declared.summary.Summary.{Summary}
use Rattle.serde_json.specs.Read.{read}

-- the bytes from the first on that is no blank
abbrev pub without_blanks : List ℕ → List ℕ
without_blanks [] = []
without_blanks (byte ∷ bytes) = if is_blank byte then without_blanks bytes else byte ∷ bytes

-- the bytes before the first byte 10, or all
abbrev pub first_line : List ℕ → List ℕ
first_line [] = []
first_line (byte ∷ bytes) = if byte == 10 then [] else byte ∷ first_line bytes

-- the first line that is not blank, without the blanks at its start
abbrev pub first_text : List ℕ → List ℕ
first_text bytes = first_line (without_blanks bytes)

-- the text is a JSON document
abbrev pub is_json : List ℕ → Bool
is_json text = is_utf8 text && is_some (read text)

-- there is one document a line, as the first line that is not blank is one by itself, or there is no such line
abbrev pub is_by_line : List ℕ → Bool
is_by_line bytes = (length (first_text bytes) == 0) || is_json (first_text bytes)

-- a byte 10 ends the first line that is not blank
pub record HasFirstText (bytes : List ℕ) : Type 0 where
  pub line : List ℕ
  pub after : List ℕ
  pub one_line : All (λ byte. byte ≢ 10) line
  pub ended : without_blanks bytes ≡ line ++ 10 ∷ after

-- the bytes are read, up to the end of the first line that is not blank or to that of the input
pub record IsBeginning (bytes : List ℕ) (unread unread' : Option (List ℕ)) : Type 0 where
  pub consumed : Consumes unread unread' bytes
  pub decided : HasFirstText bytes ⊎ IsAtEnd unread'

-- known bytes have one document a line, or are one document
abbrev pub AreByLine : Bool → Option (List ℕ) → Type 0
AreByLine by_line None = ⊤
AreByLine by_line (Some bytes) = is_by_line bytes ≡ by_line

-- known bytes are these
abbrev pub Are : Option (List ℕ) → Option (List ℕ) → Type 0
Are None bytes = ⊤
Are (Some known) bytes = bytes ≡ Some known

-- it holds its documents in this way, and is answered so
pub record AnswersBy (ends : Ending) (by_line : Bool) (unread written written' : Option (List ℕ)) (outcome : Result Summary RunFault) : Type 0 where
  pub are_by_line : AreByLine by_line unread
  pub bytes : Option (List ℕ)
  pub are : Are unread bytes
  pub left : Option (List ℕ)
  pub ended : ends bytes left written written' outcome

-- a fault of the reader or of memory comes before it is known which of both it is
pub record IsUndecided (written written' : Option (List ℕ)) (outcome : Result Summary RunFault) : Type 0 where
  pub fault : IsErrOf outcome Read ⊎ IsErrOf outcome Memory
  pub kept : Keeps written written'

-- how it ends to answer an input that has one document a line or is one
abbrev pub FileEnds : Input → Option (List ℕ) → Option (List ℕ) → Option (List ℕ) → Option (List ℕ) → Result Summary RunFault → Type 0
FileEnds input unread unread' written written' outcome =
    AnswersBy (StreamEnds (IsLineAnswer input) (BeginsLine input)) true unread written written' outcome
    ⊎ (AnswersBy (WholeEnds input) false unread written written' outcome ⊎ IsUndecided written written' outcome)
