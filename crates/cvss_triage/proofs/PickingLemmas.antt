-- What the matches of a line denote, from match to match, and what is picked of it.
use Rattle.std.proofs.Common.{◌≡◌, ◌≢◌, ◌<◌, ◌≤◌, ℕ, Bool, List, [], ◌∷◌, ◌++◌, All, Contains, Option, None, Some, IfSome, MatchOption, refl, sym, ap, subst, ◌∙◌, append_assoc, append-nil, inl, inr, arith}
use Rattle.std.proofs.lemmas.List.Elements.{All-append, All-cons, All-contains, All-head, All-nil, All-push, All-tail, All-weaker, Contains-append_left, Contains-append_right, Contains-push}
use Rattle.std.specs.List.{AllZip}
use Rattle.cvss_matches.proofs.FoundLemmas.{AreFound-first, AreFound-none}
use Rattle.cvss_matches.specs.CandidatesLeft.{IsFirstFound, NoneFound}
use Rattle.cvss_matches.specs.Matches.{AreFound, Candidate, IsFound, candidates_of}
use Rattle.cvss_vector.specs.Dispatch.{DenotesCvss}
use Rattle.cvss_vector.specs.Evaluation.{version_of}
use Rattle.cvss_vector.specs.declared.scoring.Scoring.{Scoring}
use Rattle.cvss_vector.specs.declared.setting.Version.{Version}
use Rattle.cvss_vector.specs.declared.vector.Cvss.{Cvss}
use Rattle.cvss_triage.proofs.DenotingLemmas.{begins_with}
use Rattle.cvss_triage.specs.Preferences.{AreVectorsIn, IsHighest, IsNonePicked, IsOnlyOf, IsPicked, Scores}
use Rattle.cvss_triage.specs.declared.overrides.Override.{Override}
use Rattle.cvss_triage.specs.declared.preferring.Preference.TheVariants.{Of}
use Rattle.cvss_triage.specs.private.Picking.{Begins, IsOnly}

abbrev IsDenoted : Candidate → Cvss → Type 0
IsDenoted match cvss = DenotesCvss match.text cvss

-- the first of these vectors is denoted by a match, and the others by what is left after it
record BeginsWithOf (match : Candidate) (left : List Candidate) (all : List Cvss) : Type 0 where
  pub cvss : Cvss
  pub vectors : List Cvss
  pub is : all ≡ cvss ∷ vectors
  pub denoted : DenotesCvss match.text cvss
  pub are : AreVectorsIn left vectors

denoted_by : (match : Candidate) (more left : List Candidate) (all : List Cvss) → AreFound left more
    → AllZip IsDenoted (match ∷ more) all → BeginsWithOf match left all
denoted_by match more left [] are none = absurd none
denoted_by match more left (cvss ∷ vectors) are each =
    record { cvss = cvss; vectors = vectors; is = refl; denoted = each.0; are = record { found = more; are = are; denoted = each.1 } }

module _ (candidates left : List Candidate) (match : Candidate) (first : IsFirstFound candidates match left) where
  vectors_first : (cvss : Cvss) (vectors : List Cvss) → DenotesCvss match.text cvss → AreVectorsIn left vectors → AreVectorsIn candidates (cvss ∷ vectors)
  vectors_first cvss vectors denoted are = record {
    found = match ∷ are.found;
    are = AreFound-first candidates left match are.found first are.are;
    denoted = (denoted, are.denoted);
  }

  vectors_rest : (all : List Cvss) → AreVectorsIn candidates all → BeginsWithOf match left all
  vectors_rest all are =
      let begins = begins_with candidates left are.found match first are.are in
      denoted_by match begins.more left all begins.are
      (subst (λ found. AllZip IsDenoted found all) begins.is are.denoted)

found_none : (candidates found : List Candidate) → NoneFound candidates → AreFound candidates found → found ≡ []
found_none candidates [] none are = refl
found_none [] (match ∷ found) none are = absurd are
found_none (candidate ∷ candidates) (match ∷ found) none (inl (own, same, are)) =
    absurd (All-head (λ each. ¬ (IsFound each.text)) candidate candidates none own)
found_none (candidate ∷ candidates) (match ∷ found) none (inr (not, are)) =
    found_none candidates (match ∷ found) (All-tail (λ each. ¬ (IsFound each.text)) candidate candidates none) are

denoted_none : (all : List Cvss) → AllZip IsDenoted [] all → all ≡ []
denoted_none [] none = refl
denoted_none (cvss ∷ vectors) none = absurd none

module _ (Is : List Cvss → Type 0) (candidates left : List Candidate) (begins : Begins Is candidates left) where
  -- after all matches
  pub all_none : NoneFound left → (all : List Cvss) → AreVectorsIn candidates all → all ≡ begins.vectors
  all_none none all are =
      let more = begins.back all are in
      let others = denoted_none more.others (subst (λ found. AllZip IsDenoted found more.others) (found_none left more.are.found none more.are.are) more.are.denoted) in
      more.is ∙ ap (λ others. begins.vectors ++ others) others ∙ append-nil begins.vectors

  pub vectors_none : NoneFound left → AreVectorsIn candidates begins.vectors
  vectors_none none =
      subst (AreVectorsIn candidates) (append-nil begins.vectors)
      (begins.onward [] (record { found = []; are = AreFound-none left none; denoted = tt }))

  -- what is before the matches that are left is among all
  pub contains_before : (cvss : Cvss) → Contains begins.vectors cvss → (all : List Cvss) → AreVectorsIn candidates all → Contains all cvss
  contains_before cvss contained all are =
      let after = begins.back all are in
      subst (λ all. Contains all cvss) (sym after.is) (Contains-append_left begins.vectors after.others cvss contained)

  module _ (next : List Candidate) (match : Candidate) (first : IsFirstFound left match next) where
    -- after a match more, which denotes a vector
    pub begins_more : (After : List Cvss → Type 0) (cvss : Cvss) → DenotesCvss match.text cvss → ((other : Cvss) → DenotesCvss match.text other → other ≡ cvss)
        → ((vectors : List Cvss) → Is vectors → After (vectors ++ cvss ∷ [])) → Begins After candidates next
    begins_more After cvss denoted only more = record {
      vectors = begins.vectors ++ cvss ∷ [];
      is = more begins.vectors begins.is;
      onward = λ others are.
          subst (AreVectorsIn candidates) (sym (append_assoc begins.vectors (cvss ∷ []) others))
          (begins.onward (cvss ∷ others) (vectors_first left next match first cvss others denoted are));
      back = λ all are.
          let after = begins.back all are in
          let own = vectors_rest left next match first after.others after.are in
          record {
            others = own.vectors;
            are = own.are;
            is = after.is
                ∙ ap (λ others. begins.vectors ++ others) own.is
                ∙ ap (λ each. begins.vectors ++ each ∷ own.vectors) (only own.cvss own.denoted)
                ∙ sym (append_assoc begins.vectors (cvss ∷ []) own.vectors);
          };
    }

    -- a match that denotes no vector
    pub none_denoted : ((cvss : Cvss) → ¬ (DenotesCvss match.text cvss)) → (all : List Cvss) → ¬ (AreVectorsIn candidates all)
    none_denoted not all are =
        let after = begins.back all are in
        let own = vectors_rest left next match first after.others after.are in
        not own.cvss own.denoted

    -- a match whose vector is one of all
    pub contains_match : (cvss : Cvss) → ((other : Cvss) → DenotesCvss match.text other → other ≡ cvss) → (all : List Cvss) → AreVectorsIn candidates all → Contains all cvss
    contains_match cvss only all are =
        let after = begins.back all are in
        let own = vectors_rest left next match first after.others after.are in
        subst (λ all. Contains all cvss) (sym (after.is ∙ ap (λ others. begins.vectors ++ others) own.is))
        (Contains-append_right begins.vectors (own.cvss ∷ own.vectors) cvss
        (subst (λ each. Contains (each ∷ own.vectors) cvss) (sym (only own.cvss own.denoted)) (Contains-append_left (cvss ∷ []) own.vectors cvss (Contains-push [] cvss))))

module _ (version : Version) (vectors : List Cvss) (cvss : Cvss) where
  -- a vector more of another version
  pub only_other : (only : Option Cvss) → version_of cvss ≢ version → IsOnly version vectors only → IsOnly version (vectors ++ cvss ∷ []) only
  only_other None not are = All-push (λ other. version_of other ≢ version) vectors cvss are not
  only_other (Some own) not is = record {
    of_version = is.of_version;
    is_one = Contains-append_left vectors (cvss ∷ []) own is.is_one;
    only = All-push (λ other. version_of other ≡ version → other ≡ own) vectors cvss is.only (λ same. absurd (not same));
  }

  -- one more of this version, which is the one before it if there is one
  pub only_same : (only : Option Cvss) → version_of cvss ≡ version → IfSome only (λ own. own ≡ cvss) → IsOnly version vectors only → IsOnlyOf version (vectors ++ cvss ∷ []) cvss
  only_same None of_version same are = record {
    of_version = of_version;
    is_one = Contains-push vectors cvss;
    only = All-push (λ other. version_of other ≡ version → other ≡ cvss) vectors cvss
        (All-weaker (λ other. version_of other ≢ version) (λ other. version_of other ≡ version → other ≡ cvss) (λ other not is. absurd (not is)) vectors are) (λ is. refl);
  }
  only_same (Some own) of_version same is = record {
    of_version = of_version;
    is_one = Contains-push vectors cvss;
    only = All-push (λ other. version_of other ≡ version → other ≡ cvss) vectors cvss
        (All-weaker (λ other. version_of other ≡ version → other ≡ own) (λ other. version_of other ≡ version → other ≡ cvss) (λ other is_own is. is_own is ∙ same) vectors is.only) (λ is. refl);
  }

-- no vector is the only one of a version where there is none
pub only_not : (version : Version) (vectors : List Cvss) → All (λ other. version_of other ≢ version) vectors → (cvss : Cvss) → ¬ (IsOnlyOf version vectors cvss)
only_not version vectors are cvss is = All-contains (λ other. version_of other ≢ version) vectors cvss are is.is_one is.of_version

-- or where one of this version is another than the one before it
pub only_differs : (version : Version) (vectors all : List Cvss) (only : Option Cvss) (next : Cvss) → IsOnly version vectors only → version_of next ≡ version → ¬ (IfSome only (λ own. own ≡ next))
    → ((own : Cvss) → Contains vectors own → Contains all own) → Contains all next → (cvss : Cvss) → ¬ (IsOnlyOf version all cvss)
only_differs version vectors all None next are of_version differ within contained cvss is = differ tt
only_differs version vectors all (Some own) next own_is of_version differ within contained cvss is =
    let Is : Cvss → Type 0 = λ each. version_of each ≡ version → each ≡ cvss in
    differ (All-contains Is all own is.only (within own own_is.is_one) own_is.of_version ∙ sym (All-contains Is all next is.only contained of_version))

-- what is picked of a line by its version once all its matches are seen
pub only_picked : (line : List ℕ) (left : List Candidate) (version : Version) (only : Option Cvss) → Begins (λ vectors. IsOnly version vectors only) (candidates_of line) left → NoneFound left
    → (overrides : List Override) (scoring : Scoring) (allow_incomplete : Bool) → MatchOption only (IsNonePicked (Some (Of version)) overrides allow_incomplete line) (IsPicked (Some (Of version)) overrides scoring allow_incomplete line)
only_picked line left version None begins none overrides scoring allow_incomplete = λ first more are.
    only_not version (first ∷ more)
    (subst (All (λ other. version_of other ≢ version)) (sym (all_none (λ vectors. IsOnly version vectors None) (candidates_of line) left begins none (first ∷ more) are)) begins.is)
only_picked line left version (Some cvss) begins none overrides scoring allow_incomplete =
    (begins.vectors, vectors_none (λ vectors. IsOnly version vectors (Some cvss)) (candidates_of line) left begins none, begins.is)

module _ (overrides : List Override) (scoring : Scoring) (allow_incomplete : Bool) (vectors : List Cvss) (next : Cvss) (score : ℕ) (scores : Scores overrides scoring allow_incomplete next score) where
  abbrev ScoresLess : ℕ → Cvss → Type 0
  ScoresLess tenths other = (less : ℕ) × Scores overrides scoring allow_incomplete other less × (less < tenths)

  abbrev ScoresNoMore : ℕ → Cvss → Type 0
  ScoresNoMore tenths other = (no_more : ℕ) × Scores overrides scoring allow_incomplete other no_more × (no_more ≤ tenths)

  module _ (best : Cvss) (tenths : ℕ) (is : IsHighest overrides scoring allow_incomplete vectors best tenths) where
    -- one that scores no more leaves the best
    pub highest_kept : score ≤ tenths → IsHighest overrides scoring allow_incomplete (vectors ++ next ∷ []) best tenths
    highest_kept no_more = record {
      earlier = is.earlier;
      later = is.later ++ next ∷ [];
      are = ap (λ all. all ++ next ∷ []) is.are ∙ append_assoc is.earlier (best ∷ is.later) (next ∷ []);
      scores = is.scores;
      above = is.above;
      no_less = All-push (ScoresNoMore tenths) is.later next is.no_less (score, scores, no_more);
    }

    -- and one that scores more is the best
    pub highest_next : tenths < score → IsHighest overrides scoring allow_incomplete (vectors ++ next ∷ []) next score
    highest_next more = record {
      earlier = vectors;
      later = [];
      are = refl;
      scores = scores;
      above = subst (All (ScoresLess score)) (sym is.are)
          (All-append (ScoresLess score) is.earlier (best ∷ is.later)
          (All-weaker (ScoresLess tenths) (ScoresLess score) (λ other less. (less.0, less.1, omega (arith, less.2, more))) is.earlier is.above)
          (All-cons (ScoresLess score) best is.later (tenths, is.scores, more)
          (All-weaker (ScoresNoMore tenths) (ScoresLess score) (λ other no_more. (no_more.0, no_more.1, omega (arith, no_more.2, more))) is.later is.no_less)));
      no_less = All-nil (ScoresNoMore score);
    }
