-- The answers to JSON documents.
use Rattle.std.specs.Prelude.{◌≡◌, ℕ, ◌==◌, ◌||◌, ◌&&◌, ◌⊎◌, not, Bool, true, false, Option, List, [], ◌∷◌, ◌++◌, codes, flat_map, if◌then◌else◌, is_some, Some, None, ⊤}
use Rattle.std.specs.Fmt.{decimal}
use Rattle.std.specs.List.{list_all}
use Rattle.std.specs.Str.{IsUtf8}
use Rattle.cvss_vector.specs.Evaluation.{IsEvaluation}
use Rattle.cvss_vector.specs.declared.evaluation.Evaluation.{Evaluation}
use Rattle.cvss_vector.specs.declared.evaluation.Rated.{Rated}
use Rattle.cvss_vector.specs.declared.vector.Cvss.{Cvss}
use Rattle.cvss_lines.specs.Answers.{Answer, Accepted, Rejected, Rule, written_text}
use Rattle.cvss_lines.specs.Streaming.{Beginning}
use Rattle.cvss_audit.specs.Texts.{IsTextOf}
use Rattle.cvss_audit.specs.Members.{object_of}
use Rattle.serde_json.specs.Data.{Data}
use Rattle.serde_json.specs.Read.{read}
use Rattle.cvss_audit.specs.Differences.{Difference}
use Rattle.cvss_audit.specs.Findings.{Finding, IsFinding, IsRatedIn, agrees, rejected, tenths_of, vector}
use Rattle.cvss_audit.specs.Inputs.{Input, line_of}
use Rattle.cvss_audit.specs.Lines.{AreLines, error_line}
use Rattle.cvss_audit.specs.Objects.{accepted_members, location_members, error_member, error_value}
use Rattle.cvss_audit.specs.Locations.{Location, locations_in}
use Rattle.cvss_report.specs.Gates.{is_failing, is_passed_over as is_below}
use Rattle.cvss_report.specs.declared.gate.Gate.{Gate}
use Rattle.cvss_audit.specs.declared.documents.input.AuditForm.{AuditForm}
use Rattle.cvss_audit.specs.declared.documents.input.AuditForm.TheVariants.{Disagreements, Objects, DifferingObjects}

-- the facts of a vector that an object reports, and the differences from them in the document
pub record IsVectorObject (input : Input) (location : Location) (cvss : Cvss) (differences : List Difference) (value : Data) : Type 0 where
  pub scores : Evaluation
  pub are_scores : IsEvaluation cvss scores
  pub is : value ≡ object_of (location_members input location ++ accepted_members cvss scores differences)

-- the object says of what is found at the location
abbrev pub IsObjectOf : Input → Location → Finding → Data → Type 0
IsObjectOf input location (vector cvss differences) value = IsVectorObject input location cvss differences value
IsObjectOf input location (rejected reason) value = value ≡ object_of (location_members input location ++ error_member reason ∷ [])

-- the one text is that object
pub record AreObjects (input : Input) (location : Location) (finding : Finding) (texts : List (List ℕ)) : Type 0 where
  pub value : Data
  pub is_object : IsObjectOf input location finding value
  pub text : List ℕ
  pub is_text : IsTextOf value text
  pub are : texts ≡ text ∷ []

-- there is an object only where something is wrong
abbrev pub AreObjectsUnless : Bool → Input → Location → Finding → List (List ℕ) → Type 0
AreObjectsUnless true input location finding texts = texts ≡ []
AreObjectsUnless false input location finding texts = AreObjects input location finding texts

-- the texts in this form say of what is found at the location
abbrev pub AreTextsIn : AuditForm → Input → Location → Finding → List (List ℕ) → Type 0
AreTextsIn Disagreements input location finding texts = AreLines input location finding texts
AreTextsIn Objects input location finding texts = AreObjects input location finding texts
AreTextsIn DifferingObjects input location finding texts = AreObjectsUnless (agrees input finding) input location finding texts

-- nothing is written for a vector that is passed over, and nothing where nothing is printed
abbrev pub is_hidden : Gate → Option ℕ → Bool
is_hidden gate score = is_below gate score || gate.quiet

abbrev pub AreTextsIf : Bool → Input → Location → Finding → List (List ℕ) → Type 0
AreTextsIf true input location finding texts = texts ≡ []
AreTextsIf false input location finding texts = AreTextsIn input.form input location finding texts

-- the vector is passed over; or all agrees, and the gate does not fail on the vector
abbrev pub is_clean : Gate → Option ℕ → Bool → Bool
is_clean gate score agrees = is_below gate score || (agrees && not (is_failing gate score))

-- what is written for a location, and whether its vector is passed over, or is accepted and allowed, does not fail and
-- nothing differs
pub record Found : Type 0 where
  pub texts : List (List ℕ)
  pub agrees : Bool

-- this is found at the location
pub record IsFound (input : Input) (location : Location) (found : Found) : Type 0 where
  pub finding : Finding
  pub is_finding : IsFinding location finding
  pub rated : Option Rated
  pub is_rated : IsRatedIn input finding rated
  pub are_texts : AreTextsIf (is_hidden input.gate (tenths_of rated)) input location finding found.texts
  pub reported : found.agrees ≡ is_clean input.gate (tenths_of rated) (agrees input finding)

-- these are found at the locations, in their order
abbrev pub AreFound : Input → List Location → List Found → Type 0
AreFound input [] [] = ⊤
AreFound input [] (found ∷ more) = ⊥
AreFound input (location ∷ locations) [] = ⊥
AreFound input (location ∷ locations) (found ∷ more) = IsFound input location found × AreFound input locations more

-- all vectors are accepted and allowed, and nothing differs
abbrev pub all_agree : List Found → Bool
all_agree found = list_all (λ each. each.agrees) found

-- the texts for the locations
abbrev pub texts_of : List Found → List (List ℕ)
texts_of found = flat_map (λ each. each.texts) found

-- what is written for locations, each text with a byte 10
abbrev pub written_found : List Found → List ℕ
written_found found = flat_map written_text (texts_of found)

-- the bytes are what is written for the first of the locations
pub record BeginsFound (input : Input) (locations : List Location) (bytes : List ℕ) : Type 0 where
  pub first : List Location
  pub others : List Location
  pub split : locations ≡ first ++ others
  pub found : List Found
  pub are_found : AreFound input first found
  pub written : bytes ≡ written_found found

-- the answer to a document: what is written for its locations. The document is accepted if all agree.
abbrev pub answer_of : List Found → Answer
answer_of found = if all_agree found then Accepted (texts_of found) else Rejected (texts_of found)

-- a blank: RFC 8259, section 2
abbrev pub is_blank : ℕ → Bool
is_blank byte = (byte == 32) || (byte == 9) || (byte == 13) || (byte == 10)

-- the text has nothing but blanks
abbrev pub are_blanks : List ℕ → Bool
are_blanks text = list_all is_blank text

-- the text is a line, and has nothing but blanks
abbrev pub is_passed_over : Input → List ℕ → Bool
is_passed_over input text = is_some input.line && are_blanks text

-- the text is passed over, and nothing answers it
pub record IsPassedOver (input : Input) (text : List ℕ) (answer : Answer) : Type 0 where
  pub blank : is_passed_over input text ≡ true
  pub is : answer ≡ Accepted []

-- the text in this form says why a document is rejected
abbrev pub IsErrorIn : AuditForm → Input → List ℕ → List ℕ → Type 0
IsErrorIn Disagreements input reason text = text ≡ error_line input reason
IsErrorIn Objects input reason text = IsTextOf (error_value input reason) text
IsErrorIn DifferingObjects input reason text = IsTextOf (error_value input reason) text

-- there is one such text, or none where nothing is printed
abbrev pub AreErrorTexts : Bool → Input → List ℕ → List (List ℕ) → Type 0
AreErrorTexts true input reason texts = texts ≡ []
AreErrorTexts false input reason texts = (text : List ℕ) × IsErrorIn input.form input reason text × (texts ≡ text ∷ [])

-- the answer says why the text is rejected
pub record IsRejectedText (input : Input) (reason : List ℕ) (answer : Answer) : Type 0 where
  pub texts : List (List ℕ)
  pub are_texts : AreErrorTexts input.gate.quiet input reason texts
  pub is : answer ≡ Rejected texts

-- the bytes are no text
pub record IsNoText (input : Input) (text : List ℕ) (answer : Answer) : Type 0 where
  pub not_utf8 : ¬ (IsUtf8 text)
  pub rejected : IsRejectedText input (codes "not UTF-8") answer

-- why a text is no JSON, with the line and the column of an error; of these numbers nothing is promised
abbrev pub not_json : ℕ → ℕ → List ℕ
not_json line column = codes "not JSON: line " ++ (decimal line ++ (codes ", column " ++ decimal column))

-- the text is no JSON, and is not passed over
pub record IsNoJson (input : Input) (text : List ℕ) (answer : Answer) : Type 0 where
  pub utf8 : IsUtf8 text
  pub not_blank : is_passed_over input text ≡ false
  pub unread : read text ≡ None
  pub line : ℕ
  pub column : ℕ
  pub rejected : IsRejectedText input (not_json line column) answer

-- the text is a JSON document, and the answer says of each location of a vector in it
pub record IsDocument (input : Input) (text : List ℕ) (answer : Answer) : Type 0 where
  pub utf8 : IsUtf8 text
  pub document : Data
  pub reads : read text ≡ Some document
  pub found : List Found
  pub are_found : AreFound input (locations_in document) found
  pub is : answer ≡ answer_of found

-- this is an answer to the text of a document
unfoldable pub IsAnswer : Input → List ℕ → Answer → Type 0
IsAnswer input text answer =
    IsPassedOver input text answer ⊎ (IsNoText input text answer ⊎ (IsNoJson input text answer ⊎ IsDocument input text answer))

-- whole lines of the answer to a document, which may be written before the rest of it is known
pub record Begins (input : Input) (text bytes : List ℕ) : Type 0 where
  pub document : Data
  pub reads : read text ≡ Some document
  pub begins : BeginsFound input (locations_in document) bytes

-- an answer to the line of this number, where each line is a document
abbrev pub IsLineAnswer : Input → Rule
IsLineAnswer input number line answer = IsAnswer (line_of input number) line answer

abbrev pub BeginsLine : Input → Beginning
BeginsLine input number line bytes = Begins (line_of input number) line bytes
