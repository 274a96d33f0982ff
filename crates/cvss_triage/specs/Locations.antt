-- Where a line or a record is: its file, and its number there. They are counted from 1.
use Rattle.std.specs.Prelude.{◌≡◌, ◌⊎◌, ℕ, ◌+◌, ◌<◌, ◌≤◌, ◌&&◌, Bool, List, [], ◌∷◌, ◌++◌, All, codes, length, if◌then◌else◌, Option, None, Some, option_and_then}
use Rattle.std.specs.Borrow.{Bor}
use Rattle.std.specs.Fmt.{decimal}
use Rattle.std.specs.Global.{Vec}
use Rattle.std.specs.Slice.{IsItemAt}
use Rattle.cvss_frame.specs.Names as Names
use Rattle.cvss_frame.specs.Sources.{has_name, source_of}
use Rattle.cvss_triage.specs.Lines.{lines_in}
use Rattle.cvss_triage.specs.declared.form.Form.{Form}
use Rattle.cvss_triage.specs.declared.form.Form.TheVariants.{Lines, Records}
use Rattle.cvss_triage.specs.declared.input.Input.{Input}

-- for each input, how many lines or records are before its own, where so many are before the first
abbrev pub starts_after : Form → ℕ → List Input → List ℕ
starts_after form count [] = []
starts_after form count (input ∷ inputs) = count ∷ starts_after form (count + length (lines_in form input)) inputs

abbrev pub starts_of : Form → List Input → List ℕ
starts_of form inputs = starts_after form 0 inputs

-- the last of the inputs that has fewer lines before its own than this number; the line of this number among those of all
-- inputs has the number `within` in it
pub record IsLocation (starts : List ℕ) (number input within : ℕ) : Type 0 where
  pub before : List ℕ
  pub start : ℕ
  pub later : List ℕ
  pub are : starts ≡ before ++ start ∷ later
  pub is_input : input ≡ length before
  pub is_begun : start < number
  pub is_within : start + within ≡ number
  pub is_last : All (λ other. number ≤ other) later

-- a name, where there are several files and it is no vector
abbrev pub shown_name : Bool → List ℕ → Option (List ℕ)
shown_name many name = if many && has_name (source_of name) then Some name else None

-- in which of the operands' inputs a line is: its file's name, if it is shown, and the line's number in it
pub record IsInInput (starts : List ℕ) (many : Bool) (operands : List (Vec ℕ)) (number : ℕ) (name : Option (List ℕ)) (within : ℕ) : Type 0 where
  pub input : ℕ
  pub location : IsLocation starts number input within
  pub operand : Option (Bor (Vec ℕ))
  pub is_operand : IsItemAt operands input operand
  pub name_is : name ≡ option_and_then (λ operand. shown_name many operand.now.items) operand

-- where the line of this number is; no line is before all inputs
abbrev pub IsAt : List ℕ → Bool → List (Vec ℕ) → ℕ → Option (List ℕ) → ℕ → Type 0
IsAt starts many operands number name within =
    IsInInput starts many operands number name within
    ⊎ (All (λ start. number ≤ start) starts × (name ≡ None) × (within ≡ number))

-- a name before a location, as names are shown
abbrev pub name_text : Option (List ℕ) → List ℕ
name_text None = []
name_text (Some name) = Names.shown_name name ++ codes ": "

-- what has a number, in words
abbrev pub form_text : Form → List ℕ
form_text Lines = codes "line "
form_text Records = codes "record "

-- where a line or a record is, in words: its file, if that is named, and its number
abbrev pub location_text : Form → Option (List ℕ) → ℕ → List ℕ
location_text form name number = name_text name ++ (form_text form ++ (decimal number ++ codes ": "))
