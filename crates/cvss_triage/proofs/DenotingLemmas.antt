-- Which vector the matches of a line denote, from its matches one after another.
use Rattle.std.proofs.Common.{◌≡◌, List, ℕ, [], ◌∷◌, ◌++◌, All, inl, inr, refl, ap, subst, sym, ◌∙◌}
use Rattle.std.proofs.lemmas.List.Elements.{All-cons, All-head, All-nil, All-tail}
use Rattle.cvss_matches.proofs.FoundLemmas.{AreFound-first, AreFound-none}
use Rattle.cvss_matches.specs.CandidatesLeft.{IsFirstFound, NoneFound}
use Rattle.cvss_matches.specs.Matches.{AreFound, Candidate, IsFound, candidates_of}
use Rattle.cvss_vector.specs.Dispatch.{DenotesCvss}
use Rattle.cvss_vector.specs.declared.vector.Cvss.{Cvss}
use Rattle.cvss_triage.specs.Reading.{HasOthers, HasSeveral, IsOnlyMatch, IsVectorOf}
use Rattle.cvss_triage.specs.private.Denoting.{AllAre, AllDenote}

-- what is found begins with this candidate, and the others are found among those that are left
pub record BeginsWith (candidate : Candidate) (left found : List Candidate) : Type 0 where
  pub more : List Candidate
  pub is : found ≡ candidate ∷ more
  pub are : AreFound left more

passed_by : (passed : List Candidate) (candidate : Candidate) (left found : List Candidate) → NoneFound passed → IsFound candidate.text
    → AreFound (passed ++ candidate ∷ left) found → BeginsWith candidate left found
passed_by [] candidate left [] none is are = absurd (are.0 is)
passed_by [] candidate left (first ∷ found) none is (inl (own, same, are)) = record { more = found; is = ap (λ each. each ∷ found) same; are = are }
passed_by [] candidate left (first ∷ found) none is (inr (not, are)) = absurd (not is)
passed_by (other ∷ passed) candidate left [] none is are =
    passed_by passed candidate left [] (All-tail (λ each. ¬ (IsFound each.text)) other passed none) is are.1
passed_by (other ∷ passed) candidate left (first ∷ found) none is (inl (own, same, are)) =
    absurd (All-head (λ each. ¬ (IsFound each.text)) other passed none own)
passed_by (other ∷ passed) candidate left (first ∷ found) none is (inr (not, are)) =
    passed_by passed candidate left (first ∷ found) (All-tail (λ each. ¬ (IsFound each.text)) other passed none) is are

pub begins_with : (candidates left found : List Candidate) (candidate : Candidate) → IsFirstFound candidates candidate left → AreFound candidates found → BeginsWith candidate left found
begins_with candidates left found candidate first are =
    passed_by first.passed candidate left found first.none first.found (subst (λ all. AreFound all found) first.is are)

module _ (Is : List ℕ → Type 0) (candidates left : List Candidate) (candidate : Candidate) (first : IsFirstFound candidates candidate left) where
  -- all are so where the first and the others are
  pub AllAre-first : Is candidate.text → AllAre Is left → AllAre Is candidates
  AllAre-first own others = record {
    found = candidate ∷ others.found;
    are = AreFound-first candidates left candidate others.found first others.are;
    each = All-cons (λ match. Is match.text) candidate others.found own others.each;
  }

  -- and then alone
  pub AllAre-head : AllAre Is candidates → Is candidate.text
  AllAre-head all =
      let begins = begins_with candidates left all.found candidate first all.are in
      All-head (λ match. Is match.text) candidate begins.more (subst (All (λ match. Is match.text)) begins.is all.each)

  pub AllAre-tail : AllAre Is candidates → AllAre Is left
  AllAre-tail all =
      let begins = begins_with candidates left all.found candidate first all.are in
      record {
        found = begins.more;
        are = begins.are;
        each = All-tail (λ match. Is match.text) candidate begins.more (subst (All (λ match. Is match.text)) begins.is all.each);
      }

pub AllAre-none : (Is : List ℕ → Type 0) (candidates : List Candidate) → NoneFound candidates → AllAre Is candidates
AllAre-none Is candidates none = record {
  found = [];
  are = AreFound-none candidates none;
  each = All-nil (λ match. Is match.text);
}

-- the vector of a line that has a match
pub IsVectorOf-all : (line : List ℕ) (cvss : Cvss) (candidates left : List Candidate) (candidate : Candidate) → candidates ≡ candidates_of line
    → IsFirstFound candidates candidate left → DenotesCvss candidate.text cvss → AllDenote cvss left → IsVectorOf line cvss
IsVectorOf-all line cvss candidates left candidate is first denoted others = record {
  first = candidate;
  more = others.found;
  found = subst (λ all. AreFound all (candidate ∷ others.found)) is (AreFound-first candidates left candidate others.found first others.are);
  denoted = All-cons (λ match. DenotesCvss match.text cvss) candidate others.found denoted others.each;
}

pub AllDenote-line : (line : List ℕ) (cvss : Cvss) (candidates : List Candidate) → candidates ≡ candidates_of line → IsVectorOf line cvss → AllDenote cvss candidates
AllDenote-line line cvss candidates is vector = record {
  found = vector.first ∷ vector.more;
  are = subst (λ all. AreFound all (vector.first ∷ vector.more)) (sym is) vector.found;
  each = vector.denoted;
}

-- two matches of a line, and those after them
module _ (line : List ℕ) (candidates left rest : List Candidate) (first second : Candidate) (is : candidates ≡ candidates_of line)
    (one : IsFirstFound candidates first left) (other : IsFirstFound left second rest) where
  pub HasSeveral-two : HasSeveral line
  HasSeveral-two = record {
    first = first;
    second = second;
    before = one.passed;
    between = other.passed;
    after = rest;
    are = sym is ∙ one.is ∙ ap (λ left. one.passed ++ first ∷ left) other.is;
    first_found = one.found;
    second_found = other.found;
  }

  -- they have the vector that all denote
  pub IsVectorOf-several : (cvss : Cvss) → DenotesCvss first.text cvss → DenotesCvss second.text cvss → AllDenote cvss rest → IsVectorOf line cvss
  IsVectorOf-several cvss own next others =
      IsVectorOf-all line cvss candidates left first is one own (AllAre-first (λ text. DenotesCvss text cvss) left rest second other next others)

  -- and none where they do not
  pub HasOthers-several : ((cvss : Cvss) → DenotesCvss first.text cvss → DenotesCvss second.text cvss → ¬ (AllDenote cvss rest)) → HasOthers line
  HasOthers-several differ = record {
    several = HasSeveral-two;
    differ = λ cvss vector.
        let Is : List ℕ → Type 0 = λ text. DenotesCvss text cvss in
        let all = AllDenote-line line cvss candidates is vector in
        let more = AllAre-tail Is candidates left first one all in
        differ cvss (AllAre-head Is candidates left first one all) (AllAre-head Is left rest second other more) (AllAre-tail Is left rest second other more);
  }

-- the only match of a line
pub IsOnlyMatch-one : (line : List ℕ) (candidates left : List Candidate) (match : Candidate) → candidates ≡ candidates_of line
    → IsFirstFound candidates match left → NoneFound left → IsOnlyMatch line match.text
IsOnlyMatch-one line candidates left match is first none = record {
  match = match;
  only = subst (λ all. AreFound all (match ∷ [])) is (AreFound-first candidates left match [] first (AreFound-none left none));
  is = refl;
}
