-- What the private code of a search has found, in a note of it. No public clause cites it.
use Rattle.std.specs.Prelude.{ℕ, List, ◌++◌, map}
use Rattle.cvss_matches.specs.Matches.{AreFound, Candidate}
use Rattle.cvss_csv.specs.Answers.{AreTextsIn, AreTextsOf}
use Rattle.cvss_csv.specs.Tallies.{Adds}

-- the texts in a value are found after whatever were
pub record FindsIn {N : Type 0} (IsOf : N → List (List ℕ) → Type 0) (searched : List ℕ) (old new : N) : Type 0 where
  pub own : List (List ℕ)
  pub are_texts : AreTextsIn searched own
  pub adds : Adds IsOf own old new

-- the texts in some fields
pub record FindsInAll {N : Type 0} (IsOf : N → List (List ℕ) → Type 0) (fields : List (List ℕ)) (old new : N) : Type 0 where
  pub own : List (List ℕ)
  pub are_texts : AreTextsOf fields own
  pub adds : Adds IsOf own old new

-- those before the candidates that are left of a value
pub record HasFound {N : Type 0} (IsOf : N → List (List ℕ) → Type 0) (all left : List Candidate) (old new : N) : Type 0 where
  pub found : List Candidate
  pub are_found : (more : List Candidate) → AreFound left more → AreFound all (found ++ more)
  pub adds : Adds IsOf (map (λ each. each.text) found) old new

-- those before the fields that are left
pub record HasFoundInAll {N : Type 0} (IsOf : N → List (List ℕ) → Type 0) (all left : List (List ℕ)) (old new : N) : Type 0 where
  pub own : List (List ℕ)
  pub are_texts : (more : List (List ℕ)) → AreTextsOf left more → AreTextsOf all (own ++ more)
  pub adds : Adds IsOf own old new
