-- The lines for people: one for each disagreement, rejected vector, vector that lacks base metrics, and text that is no
-- JSON. What is quoted is escaped as in strings of JSON; the name of a file is shown as before other lines.
use Rattle.std.specs.Prelude.{◌≡◌, ℕ, ◌==◌, ◌||◌, not, Bool, true, false, List, [], ◌∷◌, ◌++◌, codes, flat_map, is_some, length, Option, Some, None, ⊤}
use Rattle.std.specs.Fmt.{decimal}
use Rattle.cvss_frame.specs.Names.{shown_name}
use Rattle.cvss_json.specs.Escapes.{escaped, quoted}
use Rattle.cvss_vector.specs.declared.vector.Cvss.{Cvss}
use Rattle.serde_json.specs.Data.{Data, null, boolean, number, string, array, object}
use Rattle.cvss_audit.specs.Texts.{IsTextOf}
use Rattle.cvss_audit.specs.Differences.{Difference}
use Rattle.cvss_audit.specs.Findings.{Finding, vector, rejected}
use Rattle.cvss_audit.specs.Inputs.{Input}
use Rattle.cvss_audit.specs.Objects.{missing_of}
use Rattle.cvss_audit.specs.Locations.{Location}

-- the name of the file and a colon
abbrev pub file_text : Option (List ℕ) → List ℕ
file_text None = []
file_text (Some file) = shown_name file ++ codes ":"

-- the number of the line and a colon
abbrev pub number_text : Option ℕ → List ℕ
number_text None = []
number_text (Some line) = decimal line ++ codes ":"

-- a space, where something comes before
abbrev pub space_if : Bool → List ℕ
space_if true = codes " "
space_if false = []

-- the file, the line or a pointer is said
abbrev pub is_located : Input → List ℕ → Bool
is_located input at = is_some input.file || (is_some input.line || not (length at == 0))

-- the file, the line, and the pointer to a value in the document
abbrev pub location_text : Input → List ℕ → List ℕ
location_text input at = file_text input.file ++ (number_text input.line ++ (escaped at ++ space_if (is_located input at)))

abbrev pub id_text : Option (List ℕ) → List ℕ
id_text None = []
id_text (Some id) = escaped id ++ codes " "

-- the beginning of a line about a location
abbrev pub start_text : Input → Location → List ℕ
start_text input location = location_text input location.0 ++ id_text location.4.1

-- a line that says why a vector, or a document, is rejected
abbrev pub reason_text : List ℕ → List ℕ
reason_text reason = codes "error: " ++ escaped reason

abbrev pub rejected_line : Input → Location → List ℕ → List ℕ
rejected_line input location reason = start_text input location ++ reason_text reason

abbrev pub error_line : Input → List ℕ → List ℕ
error_line input reason = location_text input [] ++ reason_text reason

-- a line that names the base metrics that the vector lacks
abbrev pub name_text : List ℕ → List ℕ
name_text name = 32 ∷ name

abbrev pub missing_line : Input → Location → List (List ℕ) → List ℕ
missing_line input location names = start_text input location ++ (codes "missing:" ++ flat_map name_text names)

-- that line, where it lacks some and may not
abbrev pub missing_lines : Bool → Input → Location → List (List ℕ) → List (List ℕ)
missing_lines true input location names = []
missing_lines false input location [] = []
missing_lines false input location (name ∷ names) = missing_line input location (name ∷ names) ∷ []

-- how a value is written: as in JSON, a number with any digits that read back; an array or an object by its kind
abbrev pub IsSaid : Data → List ℕ → Type 0
IsSaid null text = IsTextOf null text
IsSaid (boolean value) text = IsTextOf (boolean value) text
IsSaid (number value) text = IsTextOf (number value) text
IsSaid (string value) text = text ≡ quoted value
IsSaid (array _) text = text ≡ codes "an array"
IsSaid (object _) text = text ≡ codes "an object"

-- how the value that would agree is written: null as no value
abbrev pub IsWanted : Data → List ℕ → Type 0
IsWanted null text = text ≡ codes "absent"
IsWanted value text = IsSaid value text

-- a line that says what a member says, and what it should
pub record IsDifferenceLine (input : Input) (location : Location) (difference : Difference) (line : List ℕ) : Type 0 where
  pub says : List ℕ
  pub is_said : IsSaid difference.1 says
  pub wanted : List ℕ
  pub is_wanted : IsWanted difference.2 wanted
  pub are : line ≡ start_text input location ++ (escaped difference.0 ++ (codes ": says " ++ (says ++ (codes ", should be " ++ wanted))))

-- a line for each difference, in their order
abbrev pub AreDifferenceLines : Input → Location → List Difference → List (List ℕ) → Type 0
AreDifferenceLines input location [] [] = ⊤
AreDifferenceLines input location [] (line ∷ lines) = ⊥
AreDifferenceLines input location (difference ∷ differences) [] = ⊥
AreDifferenceLines input location (difference ∷ differences) (line ∷ lines) =
    IsDifferenceLine input location difference line × AreDifferenceLines input location differences lines

-- the lines about an accepted vector
pub record AreVectorLines (input : Input) (location : Location) (cvss : Cvss) (differences : List Difference) (texts : List (List ℕ)) : Type 0 where
  pub lines : List (List ℕ)
  pub are_lines : AreDifferenceLines input location differences lines
  pub are : texts ≡ missing_lines input.allow_incomplete input location (missing_of cvss) ++ lines

-- the lines about what is found at a location
abbrev pub AreLines : Input → Location → Finding → List (List ℕ) → Type 0
AreLines input location (vector cvss differences) texts = AreVectorLines input location cvss differences texts
AreLines input location (rejected reason) texts = texts ≡ rejected_line input location reason ∷ []
