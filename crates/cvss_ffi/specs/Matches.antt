-- What is reported of the next match of a vector in a text, and what a loop of calls finds.
use Rattle.std.specs.Prelude.{◌≡◌, ℕ, List, [], ◌∷◌, Option, Some, None, length}
use Rattle.cvss_matches.specs.Matches.{Candidate}
use Rattle.cvss_matches.specs.CandidatesLeft.{IsFirstFound, NoneFound, candidates_after}
use Rattle.cvss_ffi.specs.declared.matches.CvssMatch.{CvssMatch}

-- how many bytes a match has
abbrev pub match_size : ℕ
match_size = 32

-- the first match in the text from an offset on, and where to go on, in a struct of such a size
pub record IsMatchOf (text : List ℕ) (from size : ℕ) (reported : CvssMatch) : Type 0 where
  pub found : Candidate
  pub first : IsFirstFound (candidates_after text from) found (candidates_after text reported.next)
  pub offset_is : reported.offset ≡ found.offset
  pub length_is : reported.length ≡ length found.text
  pub size_is : reported.size ≡ size

-- that match, or that there is none
abbrev pub IsMatchFrom : List ℕ → ℕ → ℕ → Option CvssMatch → Type 0
IsMatchFrom text from size (Some reported) = IsMatchOf text from size reported
IsMatchFrom text from size None = NoneFound (candidates_after text from)

-- calls find these in turn, the first from an offset, each from where the one before says to go on, and then none
abbrev pub AreFoundInTurn : List ℕ → ℕ → List Candidate → Type 0
AreFoundInTurn text from [] = NoneFound (candidates_after text from)
AreFoundInTurn text from (found ∷ more) =
    (next : ℕ) × IsFirstFound (candidates_after text from) found (candidates_after text next) × AreFoundInTurn text next more
