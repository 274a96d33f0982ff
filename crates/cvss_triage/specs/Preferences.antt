-- Which vector of a line is preferred, where its matches denote several: that of a version, or the one with the highest
-- score.
use Rattle.std.specs.Prelude.{◌≡◌, ◌<◌, ◌≤◌, ℕ, Bool, List, ◌∷◌, ◌++◌, All, Contains, Option, None, Some, ⊤}
use Rattle.std.specs.List.{AllZip}
use Rattle.cvss_matches.specs.Matches.{AreFound, Candidate, candidates_of}
use Rattle.cvss_vector.specs.Answers.{score_of_tenths}
use Rattle.cvss_vector.specs.Complete.{missing_by}
use Rattle.cvss_vector.specs.Dispatch.{DenotesCvss}
use Rattle.cvss_vector.specs.Evaluation.{IsScoreAs, version_of}
use Rattle.cvss_vector.specs.declared.metric_type.MetricType.{MetricType}
use Rattle.cvss_vector.specs.declared.scoring.Scoring.{Scoring}
use Rattle.cvss_vector.specs.declared.setting.Version.{Version}
use Rattle.cvss_vector.specs.declared.vector.Cvss.{Cvss}
use Rattle.cvss_triage.specs.Overrides.{IsWithOwn}
use Rattle.cvss_triage.specs.declared.overrides.Override.{Override}
use Rattle.cvss_triage.specs.declared.preferring.Preference.{Preference}
use Rattle.cvss_triage.specs.declared.preferring.Preference.TheVariants.{Of, Highest}

-- each of the candidates that are found denotes its own of these vectors, in their order
pub record AreVectorsIn (candidates : List Candidate) (vectors : List Cvss) : Type 0 where
  pub found : List Candidate
  pub are : AreFound candidates found
  pub denoted : AllZip (λ match cvss. DenotesCvss match.text cvss) found vectors

-- all vectors of this version are one, and this is it
pub record IsOnlyOf (version : Version) (vectors : List Cvss) (cvss : Cvss) : Type 0 where
  pub of_version : version_of cvss ≡ version
  pub is_one : Contains vectors cvss
  pub only : All (λ other. version_of other ≡ version → other ≡ cvss) vectors

-- the vector lacks no base metric after the overrides, unless it may, and scores so many tenths then
pub record Scores (overrides : List Override) (scoring : Scoring) (allow_incomplete : Bool) (cvss : Cvss) (tenths : ℕ) : Type 0 where
  pub new : Cvss
  pub with_own : IsWithOwn overrides cvss new
  pub complete : missing_by allow_incomplete new ≡ None
  pub scored : IsScoreAs scoring new (score_of_tenths tenths)

-- the vector lacks base metrics after the overrides, and may not
pub record Lacks (overrides : List Override) (allow_incomplete : Bool) (cvss : Cvss) : Type 0 where
  pub new : Cvss
  pub with_own : IsWithOwn overrides cvss new
  pub metric : MetricType
  pub missing : missing_by allow_incomplete new ≡ Some metric

-- the vector scores so many tenths, which is more than those before it score, and no less than those after it
pub record IsHighest (overrides : List Override) (scoring : Scoring) (allow_incomplete : Bool) (vectors : List Cvss) (cvss : Cvss) (tenths : ℕ) : Type 0 where
  pub earlier : List Cvss
  pub later : List Cvss
  pub are : vectors ≡ earlier ++ cvss ∷ later
  pub scores : Scores overrides scoring allow_incomplete cvss tenths
  pub above : All (λ other. (less : ℕ) × Scores overrides scoring allow_incomplete other less × (less < tenths)) earlier
  pub no_less : All (λ other. (score : ℕ) × Scores overrides scoring allow_incomplete other score × (score ≤ tenths)) later

-- of these vectors this one is preferred
abbrev pub IsPreferred : Preference → List Override → Scoring → Bool → List Cvss → Cvss → Type 0
IsPreferred (Of version) overrides scoring allow_incomplete vectors cvss = IsOnlyOf version vectors cvss
IsPreferred Highest overrides scoring allow_incomplete vectors cvss = (tenths : ℕ) × IsHighest overrides scoring allow_incomplete vectors cvss tenths

-- none of these vectors is: they have not one of the version, or one of those that are compared has no score
abbrev pub IsNonePreferred : Preference → List Override → Bool → List Cvss → Type 0
IsNonePreferred (Of version) overrides allow_incomplete vectors = (cvss : Cvss) → ¬ (IsOnlyOf version vectors cvss)
IsNonePreferred Highest overrides allow_incomplete vectors = (cvss : Cvss) × Contains vectors cvss × Lacks overrides allow_incomplete cvss

-- each match of the line denotes a vector, and of these this one is preferred, if it is said which is to be
abbrev pub IsPicked : Option Preference → List Override → Scoring → Bool → List ℕ → Cvss → Type 0
IsPicked None overrides scoring allow_incomplete line cvss = ⊥
IsPicked (Some preference) overrides scoring allow_incomplete line cvss =
    (vectors : List Cvss) × AreVectorsIn (candidates_of line) vectors × IsPreferred preference overrides scoring allow_incomplete vectors cvss

-- it is not said, or a match of the line denotes no vector, or none of those that they denote is preferred
abbrev pub IsNonePicked : Option Preference → List Override → Bool → List ℕ → Type 0
IsNonePicked None overrides allow_incomplete line = ⊤
IsNonePicked (Some preference) overrides allow_incomplete line =
    (first : Cvss) (more : List Cvss) → AreVectorsIn (candidates_of line) (first ∷ more)
    → IsNonePreferred preference overrides allow_incomplete (first ∷ more)
