-- Where the candidates of a text are.
use Rattle.std.specs.Prelude.{◌≡◌, ℕ, ◌+◌, ◌≤◌, List, [], ◌∷◌, length, take, drop, ⊤}
use Rattle.cvss_matches.specs.Matches.{Candidate}

-- the candidate's bytes are in the text, at its offset
pub record StandsIn (text : List ℕ) (candidate : Candidate) : Type 0 where
  pub within : candidate.offset + length candidate.text ≤ length text
  pub is : take (length candidate.text) (drop candidate.offset text) ≡ candidate.text

-- each candidate ends before the next begins
abbrev pub AreInOrder : List Candidate → Type 0
AreInOrder [] = ⊤
AreInOrder (candidate ∷ []) = ⊤
AreInOrder (candidate ∷ next ∷ more) = (candidate.offset + length candidate.text ≤ next.offset) × AreInOrder (next ∷ more)
