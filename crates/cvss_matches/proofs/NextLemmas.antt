-- How candidates are looked at one after another.
use Rattle.std.proofs.Common.{◌≡◌, List, [], ◌∷◌, ◌++◌, sym, ap, ◌∙◌, subst, append_assoc}
use Rattle.std.proofs.lemmas.List.Elements.{All-append, All-push}
use Rattle.cvss_matches.specs.Matches.{Candidate, IsFound}
use Rattle.cvss_matches.specs.CandidatesLeft.{IsFirstFound}
use Rattle.cvss_matches.specs.private.Passing.{Passes}

pub Passes-one : (candidates left after : List Candidate) (candidate : Candidate) → Passes candidates left → left ≡ candidate ∷ after → ¬ (IsFound candidate.text) → Passes candidates after
Passes-one candidates left after candidate so_far is not_found = record {
  passed = so_far.passed ++ candidate ∷ [];
  is = so_far.is ∙ ap (λ rest. so_far.passed ++ rest) is ∙ sym (append_assoc so_far.passed (candidate ∷ []) after);
  none = All-push (λ each. ¬ (IsFound each.text)) so_far.passed candidate so_far.none not_found;
}

-- one after the other
pub Passes-trans : (candidates between left : List Candidate) → Passes candidates between → Passes between left → Passes candidates left
Passes-trans candidates between left first second = record {
  passed = first.passed ++ second.passed;
  is = first.is ∙ ap (λ rest. first.passed ++ rest) second.is ∙ sym (append_assoc first.passed second.passed left);
  none = All-append (λ candidate. ¬ (IsFound candidate.text)) first.passed second.passed first.none second.none;
}

-- the next candidate is found after those that are passed
pub IsFirstFound-after : (candidates left after : List Candidate) (candidate given : Candidate) → Passes candidates left → left ≡ candidate ∷ after → given ≡ candidate → IsFound candidate.text
    → IsFirstFound candidates given after
IsFirstFound-after candidates left after candidate given so_far is same found = record {
  passed = so_far.passed;
  is = so_far.is ∙ ap (λ rest. so_far.passed ++ rest) (is ∙ ap (λ first. first ∷ after) (sym same));
  none = so_far.none;
  found = subst (λ each. IsFound each.text) (sym same) found;
}
