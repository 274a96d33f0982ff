-- What all matches among some candidates are.
use Rattle.std.specs.Prelude.{ℕ, List, All}
use Rattle.cvss_matches.specs.Matches.{AreFound, Candidate}
use Rattle.cvss_vector.specs.Dispatch.{DenotesCvss}
use Rattle.cvss_vector.specs.declared.vector.Cvss.{Cvss}

-- the text of each candidate that is found is so
pub record AllAre (Is : List ℕ → Type 0) (candidates : List Candidate) : Type 0 where
  pub found : List Candidate
  pub are : AreFound candidates found
  pub each : All (λ match. Is match.text) found

-- each denotes this vector
abbrev pub AllDenote : Cvss → List Candidate → Type 0
AllDenote cvss candidates = AllAre (λ text. DenotesCvss text cvss) candidates
