-- What is picked of the vectors of a line before its next match.
use Rattle.std.specs.Prelude.{◌≡◌, ◌≢◌, ◌++◌, [], Bool, List, All, Option, None, Some}
use Rattle.cvss_matches.specs.Matches.{Candidate}
use Rattle.cvss_vector.specs.Evaluation.{version_of}
use Rattle.cvss_vector.specs.declared.scoring.Scoring.{Scoring}
use Rattle.cvss_vector.specs.declared.setting.Version.{Version}
use Rattle.cvss_vector.specs.declared.vector.Cvss.{Cvss}
use Rattle.cvss_triage.specs.Preferences.{AreVectorsIn, IsHighest, IsOnlyOf}
use Rattle.cvss_triage.specs.declared.overrides.Override.{Override}
use Rattle.cvss_triage.specs.declared.preferring.Scored.{Scored}

-- of the vectors of this version this is the only one, or there is none
abbrev pub IsOnly : Version → List Cvss → Option Cvss → Type 0
IsOnly version vectors None = All (λ other. version_of other ≢ version) vectors
IsOnly version vectors (Some cvss) = IsOnlyOf version vectors cvss

-- the first with the highest score, if there are vectors
abbrev pub IsBest : List Override → Scoring → Bool → List Cvss → Option Scored → Type 0
IsBest overrides scoring allow_incomplete vectors None = vectors ≡ []
IsBest overrides scoring allow_incomplete vectors (Some best) = IsHighest overrides scoring allow_incomplete vectors best.cvss best.tenths

-- all are these vectors, and then those that the candidates that are left denote
pub record Continues (left : List Candidate) (vectors all : List Cvss) : Type 0 where
  pub others : List Cvss
  pub are : AreVectorsIn left others
  pub is : all ≡ vectors ++ others

-- such vectors are denoted by what is found before the candidates that are left: what all denote begins with them
pub record Begins (Is : List Cvss → Type 0) (candidates left : List Candidate) : Type 0 where
  pub vectors : List Cvss
  pub is : Is vectors
  pub onward : (others : List Cvss) → AreVectorsIn left others → AreVectorsIn candidates (vectors ++ others)
  pub back : (all : List Cvss) → AreVectorsIn candidates all → Continues left vectors all
