-- The vector of a line, or why it has no row.
use Rattle.std.specs.Prelude.{◌≡◌, ◌⊎◌, Bool, ℕ, List, [], ◌∷◌, ◌++◌, All, Option, Some}
use Rattle.cvss_vector.specs.Complete.{missing_by}
use Rattle.cvss_vector.specs.Dispatch.{DenotesCvss}
use Rattle.cvss_vector.specs.Rejections.{IsReadError}
use Rattle.cvss_vector.specs.declared.metric_type.MetricType.{MetricType}
use Rattle.cvss_vector.specs.declared.rejection.ReadError.{ReadError}
use Rattle.cvss_vector.specs.declared.rejection.ReadError.TheVariants.{Invalid}
use Rattle.cvss_vector.specs.declared.rejection.Rejection.TheVariants.{Missing}
use Rattle.cvss_vector.specs.declared.scoring.Scoring.{Scoring}
use Rattle.cvss_vector.specs.declared.vector.Cvss.{Cvss}
use Rattle.cvss_matches.specs.Matches.{AreFound, Candidate, IsFound, candidates_of}
use Rattle.cvss_triage.specs.Overrides.{IsWithOwn}
use Rattle.cvss_triage.specs.Preferences.{IsNonePicked, IsPicked}
use Rattle.cvss_triage.specs.declared.overrides.Override.{Override}
use Rattle.cvss_triage.specs.declared.preferring.Preference.{Preference}
use Rattle.cvss_triage.specs.declared.reading.Reason.{Reason}
use Rattle.cvss_triage.specs.declared.reading.Reason.TheVariants.{NoVector, SeveralVectors, Rejected}

-- the line has this match and no other
pub record IsOnlyMatch (line text : List ℕ) : Type 0 where
  pub match : Candidate
  pub only : AreFound (candidates_of line) (match ∷ [])
  pub is : text ≡ match.text

-- two of the line's matches are found
pub record HasSeveral (line : List ℕ) : Type 0 where
  pub first : Candidate
  pub second : Candidate
  pub before : List Candidate
  pub between : List Candidate
  pub after : List Candidate
  pub are : candidates_of line ≡ before ++ first ∷ (between ++ second ∷ after)
  pub first_found : IsFound first.text
  pub second_found : IsFound second.text

-- the line has matches, and each denotes this vector: a vector may be next to its own link
pub record IsVectorOf (line : List ℕ) (cvss : Cvss) : Type 0 where
  pub first : Candidate
  pub more : List Candidate
  pub found : AreFound (candidates_of line) (first ∷ more)
  pub denoted : All (λ match. DenotesCvss match.text cvss) (first ∷ more)

-- several matches are found, and they do not all denote one vector
pub record HasOthers (line : List ℕ) : Type 0 where
  pub several : HasSeveral line
  pub differ : (cvss : Cvss) → ¬ (IsVectorOf line cvss)

-- the line's only match is the text of no vector
pub record IsRejected (line : List ℕ) (error : ReadError) : Type 0 where
  pub text : List ℕ
  pub only : IsOnlyMatch line text
  pub is_right : IsReadError text error

-- why the matches of a line do not denote one vector
abbrev pub IsWhyNone : List ℕ → Reason → Type 0
IsWhyNone line NoVector = AreFound (candidates_of line) []
IsWhyNone line SeveralVectors = HasOthers line
IsWhyNone line (Rejected error) = IsRejected line error

-- the vector of the line that is ranked: the one that its matches denote, or of several the one that is preferred
abbrev pub IsChosen : Option Preference → List Override → Scoring → Bool → List ℕ → Cvss → Type 0
IsChosen prefer overrides scoring allow_incomplete line cvss =
    IsVectorOf line cvss ⊎ (HasOthers line × IsPicked prefer overrides scoring allow_incomplete line cvss)

-- the line's vector lacks base metrics after the overrides, and may not; the error says the first of them
pub record IsIncomplete (prefer : Option Preference) (overrides : List Override) (scoring : Scoring) (allow_incomplete : Bool) (line : List ℕ) (error : ReadError) : Type 0 where
  pub cvss : Cvss
  pub is_vector : IsChosen prefer overrides scoring allow_incomplete line cvss
  pub new : Cvss
  pub with_own : IsWithOwn overrides cvss new
  pub metric : MetricType
  pub missing : missing_by allow_incomplete new ≡ Some metric
  pub is : error ≡ Invalid (Missing metric)

-- why the line has no row
abbrev pub IsReason : Option Preference → List Override → Scoring → Bool → List ℕ → Reason → Type 0
IsReason prefer overrides scoring allow_incomplete line NoVector = AreFound (candidates_of line) []
IsReason prefer overrides scoring allow_incomplete line SeveralVectors = HasOthers line × IsNonePicked prefer overrides allow_incomplete line
IsReason prefer overrides scoring allow_incomplete line (Rejected error) =
    IsRejected line error ⊎ IsIncomplete prefer overrides scoring allow_incomplete line error
