-- What the private code of an answer does candidate by candidate. No public clause cites it.
use Rattle.std.specs.Prelude.{◌≡◌, ℕ, ◌++◌, ◌∷◌, [], Bool, List, flat_map}
use Rattle.cvss_lines.specs.Answers.{WritesAnswer, written_text}
use Rattle.cvss_matches.specs.Answers.{AreKept, AreShown, Asked, IsReported, Kept, Reported, all_accepted, find_rule, kept_texts}
use Rattle.cvss_matches.specs.declared.line.Line.{Line}
use Rattle.cvss_matches.specs.declared.form.Form.{Form}
use Rattle.cvss_matches.specs.declared.form.Form.TheVariants.{Annotated, Located, Object}
use Rattle.cvss_matches.specs.Matches.{AreFound, Candidate, candidates_of}

-- what is asked of a line
abbrev pub asked_of : Line → Asked
asked_of line = record {
  form = line.form;
  prefix = line.prefix.now;
  scoring = line.scoring;
  allow_incomplete = line.allow_incomplete;
  assumed = line.assumed;
  gate = line.gate;
  number = line.number;
  line = line.bytes.now;
}

-- what is written of a text: with a byte 10, or where the line is repeated without
abbrev pub written_as : Form → List ℕ → List ℕ
written_as Located text = written_text text
written_as Object text = written_text text
written_as (Annotated all) text = text

-- what is written before the texts: the line, where it is repeated
abbrev pub opening : Form → Asked → List ℕ
opening Located asked = []
opening Object asked = []
opening (Annotated all) asked = asked.prefix ++ asked.line

-- what is written after the texts
abbrev pub closing : Form → List ℕ
closing Located = []
closing Object = []
closing (Annotated all) = 10 ∷ []

-- the answer to what is asked is written after the earlier ones
abbrev pub AnswersLine : Asked → List ℕ → List ℕ → Bool → Type 0
AnswersLine asked = WritesAnswer (find_rule asked.form asked.scoring asked.allow_incomplete asked.assumed asked.gate asked.prefix) asked.number asked.line

-- what is reported of the candidate is written after the earlier texts
pub record WritesReported (asked : Asked) (candidate : Candidate) (old new : List ℕ) (accepted : Bool) : Type 0 where
  pub reported : Reported
  pub is_reported : IsReported asked candidate reported
  pub accepts : accepted ≡ reported.accepts
  pub written : new ≡ old ++ written_as asked.form reported.text

-- what is kept of a candidate, as is said here, is written after the earlier texts
pub record WritesKept (Is : Kept → Type 0) (form : Form) (old new : List ℕ) (accepted : Bool) : Type 0 where
  pub kept : Kept
  pub is_kept : Is kept
  pub accepts : accepted ≡ kept.accepts
  pub written : new ≡ old ++ flat_map (written_as form) kept.texts

-- what is kept is written of the candidates before those that are left, as far as they are found
pub record Reports (asked : Asked) (left : List Candidate) (old new : List ℕ) (accepted : Bool) : Type 0 where
  pub found : List Candidate
  pub are_found : (more : List Candidate) → AreFound left more → AreFound (candidates_of asked.line) (found ++ more)
  pub kept : List Kept
  pub are_kept : AreKept asked found kept
  pub accepts : accepted ≡ all_accepted kept
  pub written : new ≡ old ++ flat_map (written_as asked.form) (kept_texts kept)

-- what is kept of the candidates that are shown is written
pub record WritesShown (all : Bool) (asked : Asked) (old new : List ℕ) (accepted : Bool) : Type 0 where
  pub shown : List Candidate
  pub are_shown : AreShown all (candidates_of asked.line) shown
  pub kept : List Kept
  pub are_kept : AreKept asked shown kept
  pub accepts : accepted ≡ all_accepted kept
  pub written : new ≡ old ++ flat_map (written_as asked.form) (kept_texts kept)
