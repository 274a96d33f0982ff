-- Which candidates of a list are found, from what is found one after another.
use Rattle.std.proofs.Common.{List, [], ◌∷◌, ◌++◌, refl, sym, subst, inl, inr, append-nil}
use Rattle.std.proofs.lemmas.List.Elements.{All-head, All-tail}
use Rattle.cvss_matches.specs.Matches.{AreFound, Candidate, IsFound}
use Rattle.cvss_matches.specs.CandidatesLeft.{IsFirstFound, NoneFound}

-- candidates that are not found, before others
after_none : (passed rest found : List Candidate) → NoneFound passed → AreFound rest found → AreFound (passed ++ rest) found
after_none [] rest found none are = are
after_none (candidate ∷ passed) rest [] none are =
    (All-head (λ each. ¬ (IsFound each.text)) candidate passed none, after_none passed rest [] (All-tail (λ each. ¬ (IsFound each.text)) candidate passed none) are)
after_none (candidate ∷ passed) rest (first ∷ found) none are =
    inr (All-head (λ each. ¬ (IsFound each.text)) candidate passed none, after_none passed rest (first ∷ found) (All-tail (λ each. ¬ (IsFound each.text)) candidate passed none) are)

-- where none is found
pub AreFound-none : (candidates : List Candidate) → NoneFound candidates → AreFound candidates []
AreFound-none candidates none = subst (λ all. AreFound all []) (append-nil candidates) (after_none candidates [] [] none tt)

-- the first that is found, and then those that are
pub AreFound-first : (candidates left : List Candidate) (candidate : Candidate) (found : List Candidate) → IsFirstFound candidates candidate left → AreFound left found → AreFound candidates (candidate ∷ found)
AreFound-first candidates left candidate found first are =
    subst (λ all. AreFound all (candidate ∷ found)) (sym first.is)
    (after_none first.passed (candidate ∷ left) (candidate ∷ found) first.none (inl (first.found, refl, are)))
