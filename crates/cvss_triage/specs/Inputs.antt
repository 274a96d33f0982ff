-- What is read of the inputs, each of which is read whole, and what the first line or record of each says of the others.
use Rattle.std.specs.Prelude.{◌≡◌, ◌↔◌, ℕ, Bool, true, false, List, [], ◌∷◌, codes, not, Option, None, Some, Ok, Err, IsTrue, ⊤}
use Rattle.std.specs.Global.{Vec}
use Rattle.cvss_csv.specs.Fields.{fields}
use Rattle.cvss_csv.specs.Layouts.{IsHeader, LacksColumn, cells_by}
use Rattle.cvss_csv.specs.Records.{Record, is_open, records}
use Rattle.cvss_csv.specs.declared.asked.Column.{Column}
use Rattle.cvss_csv.specs.declared.asked.Column.TheVariants.{AnyColumn}
use Rattle.cvss_csv.specs.declared.layout.Layout.{Layout}
use Rattle.cvss_lines.specs.declared.fault.RunFault.TheVariants.{Read as ReadFault}
use Rattle.cvss_frame.specs.Arguments.{bytes_of}
use Rattle.cvss_frame.specs.State.{State}
use Rattle.cvss_frame.specs.Whole.{ReadsWhole}
use Rattle.cvss_matches.specs.Matches.{AreFound, candidates_of}
use Rattle.cvss_triage.specs.declared.form.Form.{Form}
use Rattle.cvss_triage.specs.declared.form.Form.TheVariants.{Lines, Records}
use Rattle.cvss_triage.specs.declared.input.Input.{Input}
use Rattle.cvss_triage.specs.declared.input.Input.TheVariants.{Unread, WithoutColumn, Read}

-- what one step reads of a word: the state before and after, and what is read
abbrev pub Reading : Type 0 → Type 0 → Type 1
Reading X Y = X → State → State → Y → Type 0

-- the words are read in turn, each as the step says
abbrev pub ReadsEach : {X Y : Type 0} → Reading X Y → List X → State → State → List Y → Type 0
ReadsEach step [] old new read = (new ≡ old) × (read ≡ [])
ReadsEach {X} {Y} step (word ∷ words) old new read =
    (between : State) × (first : Y) × (more : List Y) × (read ≡ first ∷ more)
    × step word old between first × ReadsEach step words between new more

-- these are the bytes of an operand, or there are none, where it cannot be read, which is reported
abbrev pub ReadsInput : Reading (List ℕ) (Option (Vec ℕ))
ReadsInput operand old new (Some bytes) = ReadsWhole operand old new (Ok bytes)
ReadsInput operand old new None = ReadsWhole operand old new (Err ReadFault)

-- the operands, or standard input where there is none
abbrev pub inputs_of : List (Vec ℕ) → List (List ℕ)
inputs_of [] = codes "-" ∷ []
inputs_of (operand ∷ operands) = bytes_of (operand ∷ operands)

-- ---- what an input says of its lines or records

-- no vector is in the first record: in its bytes; or, where a column is given, as for `cvss score --csv`, to which a record is
-- a header by the name of the column
abbrev pub IsHeading : Column → List ℕ → Bool → Type 0
IsHeading AnyColumn body is_header = IsTrue is_header ↔ AreFound (candidates_of body) []
IsHeading column body is_header = IsHeader column (fields body) is_header

-- a record has bytes, and its last field is not quoted and left open
abbrev pub is_whole : List ℕ → Bool
is_whole [] = false
is_whole (byte ∷ bytes) = not (is_open (byte ∷ bytes))

-- whether a first record is a header, by whether it is whole: otherwise it is none
abbrev pub IsHeaderIf : Bool → Column → List ℕ → Bool → Type 0
IsHeaderIf false column body is_header = is_header ≡ false
IsHeaderIf true column body is_header = IsHeading column body is_header

-- what the first record of a table says, if it has the column: which cells have vectors, and whether it is a header
abbrev pub Says : Column → List ℕ → Option Layout → Type 0
Says column body None = cells_by column (fields body) ≡ None
Says column body (Some layout) =
    (cells_by column (fields body) ≡ Some layout.cells) × IsHeaderIf (is_whole body) column body layout.has_header

-- of a table without a record nothing has to be said
abbrev pub SaysOf : Column → List Record → Layout → Type 0
SaysOf column [] layout = ⊤
SaysOf column (first ∷ more) layout = Says column first.body (Some layout)

-- a table
abbrev pub IsTableOf : Column → List ℕ → Input → Type 0
IsTableOf column text Unread = ⊥
IsTableOf column text WithoutColumn = LacksColumn column (records text)
IsTableOf column text (Read input) = (input.text.now ≡ text) × SaysOf column (records text) input.layout

-- a list of lines, of which the first may be its header
abbrev pub IsListOf : Bool → List ℕ → Input → Type 0
IsListOf header text Unread = ⊥
IsListOf header text WithoutColumn = ⊥
IsListOf header text (Read input) = (input.text.now ≡ text) × (input.layout.has_header ≡ header)

-- an input, by its text if it is read
abbrev pub IsInputOf : Form → Bool → Column → Option (Vec ℕ) → Input → Type 0
IsInputOf form header column None input = input ≡ Unread
IsInputOf Lines header column (Some text) input = IsListOf header text.items input
IsInputOf Records header column (Some text) input = IsTableOf column text.items input

-- its first record lacks the column
abbrev pub lacks_column : Input → Bool
lacks_column Unread = false
lacks_column WithoutColumn = true
lacks_column (Read input) = false

-- it has nothing that can be ranked: it cannot be read, or it lacks the column
abbrev pub is_unread : Input → Bool
is_unread Unread = true
is_unread WithoutColumn = true
is_unread (Read input) = false
