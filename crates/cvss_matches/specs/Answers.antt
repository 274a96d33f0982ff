-- The answers to lines of any text: what is reported of the vectors in them.
use Rattle.std.specs.Prelude.{◌≡◌, ℕ, ◌+◌, ◌&&◌, Bool, true, false, List, [], ◌∷◌, ◌++◌, bytes_eq, codes, drop, flat_map, length, nat_eq, not, if◌then◌else◌, MatchOption, Option, Some, None, ⊤}
use Rattle.std.specs.Fmt.{decimal}
use Rattle.std.specs.List.{list_all, starts_with}
use Rattle.std.specs.Option.{option_or}
use Rattle.cvss_vector.specs.Lines.{score_rule}
use Rattle.cvss_vector.specs.Setting.{text_with}
use Rattle.cvss_vector.specs.declared.scoring.Scoring.{Scoring}
use Rattle.cvss_vector.specs.declared.scoring.Scoring.TheVariants.{Overall}
use Rattle.cvss_vector.specs.declared.setting.Version.{Version}
use Rattle.cvss_vector.specs.declared.setting.Version.TheVariants.{V30, V31}
use Rattle.cvss_matches.specs.Decoding.{decoded}
use Rattle.cvss_matches.specs.declared.form.Form.{Form}
use Rattle.cvss_matches.specs.declared.form.Form.TheVariants.{Annotated, Located, Object}
use Rattle.cvss_lines.specs.Answers.{Answer, Accepted, Rejected, Rule, is_accepted, texts_of}
use Rattle.cvss_report.specs.Cells.{given_text, object_start}
use Rattle.cvss_report.specs.Gates.{is_failing, is_passed_over}
use Rattle.cvss_report.specs.LineScores.{IsScoreOfLine}
use Rattle.cvss_report.specs.Rows.{cells_rule}
use Rattle.cvss_report.specs.declared.format.Format.TheVariants.{Json}
use Rattle.cvss_report.specs.declared.gate.Gate.{Gate}
use Rattle.cvss_matches.specs.Matches.{AreFound, Candidate, candidates_of}
use Rattle.cvss_matches.specs.Parts.{lacks_prefix}
use Rattle.cvss_matches.specs.CandidatesLeft.{IsFirstFound, NoneFound}

-- what is asked: the form of the answer, what each text begins with, which score of a vector is printed, whether vectors of
-- CVSS v3 may lack base metrics, which version is assumed of vectors without their prefix, through which gate vectors go, if
-- there is one, a line's number, which counts from 1, and the line
pub record Asked : Type 0 where
  pub form : Form
  pub prefix : List ℕ
  pub scoring : Scoring
  pub allow_incomplete : Bool
  pub assumed : Option Version
  pub gate : Option Gate
  pub number : ℕ
  pub line : List ℕ

-- the line's number, and the offset of a candidate's first byte in it, which counts from 0 and is reported from 1
abbrev pub location_text : ℕ → ℕ → List ℕ
location_text number offset = decimal number ++ (codes ":" ++ (decimal (offset + 1) ++ codes " "))

-- what follows the candidate in the line
abbrev pub after_candidate : List ℕ → Candidate → List ℕ
after_candidate line candidate = drop (length candidate.text) (drop candidate.offset line)

-- after the candidate the line has a slash and ends: the vector may go on in the next line
abbrev pub is_cut : List ℕ → Candidate → Bool
is_cut line candidate = bytes_eq (after_candidate line candidate) (codes "/")

-- the bytes that are answered: the candidate, with the slash that ends the line unless a vector may be incomplete
abbrev pub answered_bytes : Asked → Candidate → List ℕ
answered_bytes asked candidate =
    if not asked.allow_incomplete && is_cut asked.line candidate then drop candidate.offset asked.line else candidate.text

-- the version that a link says after a vector, as those to NVD's calculator do
abbrev pub linked_version : List ℕ → Option Version
linked_version after =
    if starts_with nat_eq after (codes "&version=3.0") then Some V30
    else if starts_with nat_eq after (codes "&version=3.1") then Some V31 else None

-- the version of a vector without its prefix: that which its link says, or else the assumed one
abbrev pub version_for : Asked → Candidate → Option Version
version_for asked candidate =
    if lacks_prefix candidate.text then option_or (linked_version (after_candidate asked.line candidate)) asked.assumed else None

-- a text, after the prefix of a version if there is one
abbrev pub with_version : Option Version → List ℕ → List ℕ
with_version None text = text
with_version (Some version) text = text_with version text

-- the text that is answered: the bytes, decoded, after the prefix that they lack, if its version is known
abbrev pub answered_text : Asked → Candidate → List ℕ
answered_text asked candidate = with_version (version_for asked candidate) (decoded (answered_bytes asked candidate))

-- what is reported of a candidate, and whether it is accepted
pub record Reported : Type 0 where
  pub text : List ℕ
  pub accepts : Bool

-- the members of an object before those of the answer: the file, where answers have a prefix, the line, the column, which
-- counts from 1, and the bytes that are answered
abbrev pub first_members : Asked → Candidate → List ℕ
first_members asked candidate =
    object_start asked.prefix
    ++ (codes "\"line\":" ++ (decimal asked.number ++ (codes ",\"column\":" ++ (decimal (candidate.offset + 1)
    ++ (codes ",\"text\":" ++ given_text Json (answered_bytes asked candidate))))))

-- what is before the answer to a candidate, by the form in which it is reported
abbrev pub before_answer : Form → Asked → Candidate → List ℕ
before_answer Located asked candidate = asked.prefix ++ location_text asked.number candidate.offset
before_answer Object asked candidate = first_members asked candidate
before_answer (Annotated all) asked candidate = codes "\t"

-- which answers bytes have: what `cvss score` answers to them, or in an object, which has all scores, the members of
-- `cvss score --json` after the given text
abbrev pub answers_as : Form → Scoring → Bool → Rule
answers_as Located = score_rule
answers_as Object = λ _. cells_rule Json
answers_as (Annotated all) = score_rule

-- reported is an answer to the candidate's text as a line by itself
pub record IsReported (asked : Asked) (candidate : Candidate) (reported : Reported) : Type 0 where
  pub answer : Answer
  pub text : List ℕ
  pub answers : answers_as asked.form asked.scoring asked.allow_incomplete asked.number (answered_text asked candidate) answer
  pub one_text : texts_of answer ≡ text ∷ []
  pub is : reported.text ≡ before_answer asked.form asked candidate ++ text
  pub accepted : reported.accepts ≡ is_accepted answer

-- what the answer to a line keeps of a candidate: its texts, and whether it counts as accepted
pub record Kept : Type 0 where
  pub texts : List (List ℕ)
  pub accepts : Bool

-- what is kept of what is reported: all, or no text where nothing is printed; it counts as rejected where the gate fails on it
abbrev pub kept_of : (quiet failing : Bool) → Reported → Kept
kept_of quiet failing reported = record {
  texts = if quiet then [] else (reported.text ∷ []);
  accepts = if failing then false else reported.accepts;
}

-- nothing is kept of a candidate that is passed over, and it counts as accepted; what is reported of any other is kept so
abbrev pub IsKeptIf : (is_passed_over quiet failing : Bool) → Asked → Candidate → Kept → Type 0
IsKeptIf true quiet failing asked candidate kept = kept ≡ record { texts = []; accepts = true }
IsKeptIf false quiet failing asked candidate kept =
    (reported : Reported) × IsReported asked candidate reported × (kept ≡ kept_of quiet failing reported)

-- which score of a vector decides: the one that is printed, and of an object, which has all, the overall one
abbrev pub deciding : Form → Scoring → Scoring
deciding Located scoring = scoring
deciding Object scoring = Overall
deciding (Annotated all) scoring = scoring

-- a text as a line by itself has this score in tenths, if it has one
abbrev pub IsTextScored : Asked → List ℕ → Option ℕ → Type 0
IsTextScored asked text score =
    MatchOption score ((tenths : ℕ) → ¬ (IsScoreOfLine (deciding asked.form asked.scoring) asked.allow_incomplete text tenths))
    (IsScoreOfLine (deciding asked.form asked.scoring) asked.allow_incomplete text)

-- the candidate's text has this score
abbrev pub IsScored : Asked → Candidate → Option ℕ → Type 0
IsScored asked candidate = IsTextScored asked (answered_text asked candidate)

-- this is kept of a candidate by its score
pub record IsLetThrough (gate : Gate) (asked : Asked) (candidate : Candidate) (kept : Kept) : Type 0 where
  pub score : Option ℕ
  pub scored : IsScored asked candidate score
  pub is : IsKeptIf (is_passed_over gate score) gate.quiet (is_failing gate score) asked candidate kept

-- this is kept of a candidate, through the gate if there is one
abbrev pub IsKept : Option Gate → Asked → Candidate → Kept → Type 0
IsKept None = IsKeptIf false false false
IsKept (Some gate) = IsLetThrough gate

-- these are kept of the candidates, in their order
abbrev pub AreKept : Asked → List Candidate → List Kept → Type 0
AreKept asked [] [] = ⊤
AreKept asked [] (kept ∷ more) = ⊥
AreKept asked (candidate ∷ candidates) [] = ⊥
AreKept asked (candidate ∷ candidates) (kept ∷ more) = IsKept asked.gate asked candidate kept × AreKept asked candidates more

-- these are the candidates whose answers are shown: all that are found, or the first of them
abbrev pub AreShown : Bool → List Candidate → List Candidate → Type 0
AreShown true candidates shown = AreFound candidates shown
AreShown false candidates [] = NoneFound candidates
AreShown false candidates (candidate ∷ []) = (left : List Candidate) × IsFirstFound candidates candidate left
AreShown false candidates (candidate ∷ next ∷ more) = ⊥

-- the form shows the answers to all candidates
abbrev pub shows_all : Form → Bool
shows_all Located = true
shows_all Object = true
shows_all (Annotated all) = all

-- the texts of an answer: those for the candidates, or the line after the prefix and then these
abbrev pub texts_for : Form → Asked → List (List ℕ) → List (List ℕ)
texts_for Located asked texts = texts
texts_for Object asked texts = texts
texts_for (Annotated all) asked texts = (asked.prefix ++ (asked.line ++ flat_map (λ text. text) texts)) ∷ []

-- each candidate counts as accepted
abbrev pub all_accepted : List Kept → Bool
all_accepted kept = list_all (λ each. each.accepts) kept

-- the texts for the candidates
abbrev pub kept_texts : List Kept → List (List ℕ)
kept_texts kept = flat_map (λ each. each.texts) kept

-- the answer to a line with these texts, which is accepted if each candidate is
abbrev pub answer_with : List Kept → List (List ℕ) → Answer
answer_with kept texts = if all_accepted kept then Accepted texts else Rejected texts

-- this is an answer to what is asked: what is kept of the candidates in the line that are shown
pub record IsAnswerTo (asked : Asked) (answer : Answer) : Type 0 where
  pub shown : List Candidate
  pub are_shown : AreShown (shows_all asked.form) (candidates_of asked.line) shown
  pub kept : List Kept
  pub are_kept : AreKept asked shown kept
  pub is : answer ≡ answer_with kept (texts_for asked.form asked (kept_texts kept))

-- which answers a line has, by the form, by which score is printed, by whether vectors may be incomplete, by which version
-- is assumed of vectors without their prefix, by the gate and by what each text begins with
abbrev pub find_rule : Form → Scoring → Bool → Option Version → Option Gate → List ℕ → Rule
find_rule form scoring allow_incomplete assumed gate prefix number line =
    IsAnswerTo (record { form = form; prefix = prefix; scoring = scoring; allow_incomplete = allow_incomplete; assumed = assumed; gate = gate; number = number; line = line })
