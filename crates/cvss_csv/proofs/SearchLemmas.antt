-- What a search has found after each of its steps, and noted.
use Rattle.std.proofs.Common.{◌≡◌, ℕ, Bool, false, List, [], ◌∷◌, ◌++◌, map, Option, Result, IfOk, refl, sym, subst, append_assoc, append-nil}
use Rattle.std.proofs.lemmas.List.{map-append}
use Rattle.cvss_matches.specs.CandidatesLeft.{IsFirstFound, NoneFound}
use Rattle.cvss_matches.specs.Matches.{AreFound, Candidate, candidates_of}
use Rattle.cvss_matches.proofs.FoundLemmas.{AreFound-first, AreFound-none}
use Rattle.cvss_csv.specs.Answers.{AreTextsOf, IsVerdictBy, IsVerdictOf, searched}
use Rattle.cvss_csv.specs.Fields.{fields, value}
use Rattle.cvss_csv.specs.Writing.{Writes}
use Rattle.cvss_csv.specs.declared.asked.Asked.{Asked}
use Rattle.cvss_csv.specs.declared.asked.Cells.{Cells}
use Rattle.cvss_csv.specs.declared.tally.Tally.{Tally}
use Rattle.cvss_csv.specs.private.Searching.{FindsIn, FindsInAll, HasFound, HasFoundInAll}
use Rattle.cvss_csv.specs.Tallies.{Adds, IsTally}
use Rattle.cvss_csv.proofs.WritingLemmas.{Writes-weaker}

module _ {N : Type 0} (IsOf : N → List (List ℕ) → Type 0) where
  adds_none : (note : N) → Adds IsOf [] note note
  adds_none note texts is = subst (IsOf note) (sym (append-nil texts)) is

  adds_more : (own more : List (List ℕ)) (old middle new : N) → Adds IsOf own old middle → Adds IsOf more middle new → Adds IsOf (own ++ more) old new
  adds_more own more old middle new first last texts is = subst (IsOf new) (append_assoc texts own more) (last (texts ++ own) (first texts is))

  -- ---- in a value

  pub found_start : (all left : List Candidate) (note : N) → left ≡ all → HasFound IsOf all left note note
  found_start all left note is = record {
    found = [];
    are_found = λ more are. subst (λ candidates. AreFound candidates more) is are;
    adds = adds_none note;
  }

  pub found_next : (all left after : List Candidate) (candidate : Candidate) (old middle new : N)
      → HasFound IsOf all left old middle → IsFirstFound left candidate after → Adds IsOf (candidate.text ∷ []) middle new → HasFound IsOf all after old new
  found_next all left after candidate old middle new before first noted = record {
    found = before.found ++ candidate ∷ [];
    are_found = λ more are. subst (AreFound all) (sym (append_assoc before.found (candidate ∷ []) more))
        (before.are_found (candidate ∷ more) (AreFound-first left after candidate more first are));
    adds = subst (λ own. Adds IsOf own old new) (sym (map-append (λ (each : Candidate). each.text) before.found (candidate ∷ [])))
        (adds_more (map (λ (each : Candidate). each.text) before.found) (candidate.text ∷ []) old middle new before.adds noted);
  }

  pub found_all : (text : List ℕ) (left : List Candidate) (old new : N) → HasFound IsOf (candidates_of text) left old new → NoneFound left → FindsIn IsOf text old new
  found_all text left old new has none = record {
    own = map (λ (each : Candidate). each.text) has.found;
    are_texts = record {
      found = has.found;
      are_found = subst (AreFound (candidates_of text)) (append-nil has.found) (has.are_found [] (AreFound-none left none));
      are = refl;
    };
    adds = has.adds;
  }

  -- ---- in fields

  pub fields_start : (all left : List (List ℕ)) (note : N) → left ≡ all → HasFoundInAll IsOf all left note note
  fields_start all left note is = record {
    own = [];
    are_texts = λ more are. subst (λ fields. AreTextsOf fields more) is are;
    adds = adds_none note;
  }

  pub fields_next : (all left after : List (List ℕ)) (field : List ℕ) (old middle new : N)
      → HasFoundInAll IsOf all left old middle → left ≡ field ∷ after → FindsIn IsOf (value field) middle new → HasFoundInAll IsOf all after old new
  fields_next all left after field old middle new before is finds = record {
    own = before.own ++ finds.own;
    are_texts = λ more are. subst (AreTextsOf all) (sym (append_assoc before.own finds.own more))
        (before.are_texts (finds.own ++ more) (subst (λ fields. AreTextsOf fields (finds.own ++ more)) (sym is) (finds.own, more, finds.are_texts, are, refl)));
    adds = adds_more before.own finds.own old middle new before.adds finds.adds;
  }

  pub fields_all : (all left : List (List ℕ)) (old new : N) → HasFoundInAll IsOf all left old new → left ≡ [] → FindsInAll IsOf all old new
  fields_all all left old new has none = record {
    own = has.own;
    are_texts = subst (AreTextsOf all) (append-nil has.own) (has.are_texts [] (subst (λ fields. AreTextsOf fields []) (sym none) refl));
    adds = has.adds;
  }

  -- in one field, or in none
  pub finds_in_one : (fields : List (List ℕ)) (field : List ℕ) (old new : N) → fields ≡ field ∷ [] → FindsIn IsOf (value field) old new → FindsInAll IsOf fields old new
  finds_in_one fields field old new is finds = record {
    own = finds.own;
    are_texts = subst (λ all. AreTextsOf all finds.own) (sym is) (finds.own, [], finds.are_texts, refl, sym (append-nil finds.own));
    adds = finds.adds;
  }

  pub finds_in_none : (fields : List (List ℕ)) (note : N) → fields ≡ [] → FindsInAll IsOf fields note note
  finds_in_none fields note is = record {
    own = [];
    are_texts = subst (λ all. AreTextsOf all []) (sym is) refl;
    adds = adds_none note;
  }

-- ---- in a record

-- the verdict by what is found is that on the record, where it is closed and no header
pub found_cells : {E : Type 0} (asked : Asked) (allow unclosed is_header : Bool) (cells : Cells) (body old new : List ℕ) (result : Result (Option Bool) E) (empty full : Tally)
    → unclosed ≡ false → is_header ≡ false → IsTally empty [] → FindsInAll IsTally (searched cells (fields body)) empty full
    → ((texts : List (List ℕ)) → IsTally full texts → IfOk result (Writes asked (IsVerdictBy allow cells (fields body) texts) old new))
    → IfOk result (Writes asked (IsVerdictOf unclosed is_header allow cells body) old new)
found_cells asked allow unclosed is_header cells body old new result empty full closed plain none finds writes =
    Writes-weaker asked _ _ old new result
    (λ verdict is.
    subst (λ u. IsVerdictOf u is_header allow cells body verdict) (sym closed)
    (subst (λ h. IsVerdictOf false h allow cells body verdict) (sym plain) (record { texts = finds.own; are_texts = finds.are_texts; is = is })))
    (writes finds.own (finds.adds [] none))
