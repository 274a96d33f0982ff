-- What the iterator over the candidates of a text has still to give.
use Rattle.std.specs.Prelude.{◌≡◌, ℕ, List, ◌∷◌, ◌++◌, All, drop, Option, None, Some}
use Rattle.cvss_matches.specs.Matches.{Candidate, IsFound, candidates_from}
use Rattle.cvss_matches.specs.Parts.{parts_of}
use Rattle.cvss_matches.specs.declared.matching.Match.{Match}
use Rattle.cvss_matches.specs.declared.matches.Matches.{Matches}

-- a match as a candidate
abbrev pub as_candidate : Match → Candidate
as_candidate candidate = record { offset = candidate.offset; text = candidate.text.now }

-- the candidates after an offset of a text
abbrev pub candidates_after : List ℕ → ℕ → List Candidate
candidates_after text offset = candidates_from offset (parts_of (drop offset text))

-- the candidates that are left, found or not
abbrev pub candidates_left : Matches → List Candidate
candidates_left left = candidates_after left.text.now left.offset

-- none of the candidates is found
abbrev pub NoneFound : List Candidate → Type 0
NoneFound candidates = All (λ candidate. ¬ (IsFound candidate.text)) candidates

-- the candidate is the first of these that is found, and those are left
pub record IsFirstFound (candidates : List Candidate) (candidate : Candidate) (left : List Candidate) : Type 0 where
  pub passed : List Candidate
  pub is : candidates ≡ passed ++ candidate ∷ left
  pub none : NoneFound passed
  pub found : IsFound candidate.text

-- what the next step gives: the first candidate that is found, if one is
abbrev pub IsNext : Matches → Option Match → Matches → Type 0
IsNext old None new = NoneFound (candidates_left old)
IsNext old (Some candidate) new = IsFirstFound (candidates_left old) (as_candidate candidate) (candidates_left new)
