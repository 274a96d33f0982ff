-- What is reported of a group of metrics.
use Rattle.std.proofs.Common.{◌≡◌, ℕ, ◌-◌, ◌*◌, ◌/◌, Option, Some, None, option_map, unwrap_or, unsigned_abs, refl, pos, ◌-ℤ◌, ap, ◌∙◌}
use Rattle.cvss_base.specs.Exact.{Exact, ratio, ◌over◌, tenths, whole, ◌⊗◌, ◌≈◌}
use Rattle.cvss_base.proofs.ExactLemmas.{equal_sym}
use Rattle.cvss_score.specs.v4.Explanation.{IsGroupExplanation}
use Rattle.cvss_score.specs.v4.Classes.{macro_vector}
use Rattle.cvss_score.specs.v4.Gap.{Group, next_lower}
use Rattle.cvss_score.specs.v4.Scores.{proportion}
use Rattle.cvss_score.specs.v4.Values.{listed_value, table_value, IsListed}
use Rattle.cvss_score.specs.v4.private.Shares.{AreTerms, taken, taken_by}
use Rattle.cvss_score.specs.declared.v4.scoring.explanation.GroupExplanation.{GroupExplanation}
use Rattle.cvss_score.specs.declared.v4.scoring.effective.Effective.{Effective}
use Rattle.cvss_score.specs.declared.v4.scoring.shares.Terms.{Terms}
use Rattle.cvss_score.proofs.v4_lemmas.MeanLemmas.{IsSound, part_of}

-- what is taken of a gap, where there is one
taken_where : (next : Option ℕ) (number : ℕ → Exact) (part : ℕ → ℕ)
    → ((lower : ℕ) → next ≡ Some lower → number lower ≈ part lower over 8400)
    → unwrap_or (option_map part next) 0 over 8400 ≈ unwrap_or (option_map number next) (whole 0)
taken_where None number part is_part = record { equal = refl }
taken_where (Some lower) number part is_part = equal_sym (is_part lower refl)

taken_of : (value : ℕ) (group : Group) → IsSound value group
    → taken value group over 8400 ≈ unwrap_or (proportion value group) (whole 0)
taken_of value group sound =
    taken_where (next_lower group) (λ lower. tenths (pos value -ℤ pos lower) ⊗ ratio group.distance group.depth)
    (λ lower. (value - lower) * unsigned_abs group.distance * (840 / group.depth)) (part_of value group sound)

-- a group is reported by its terms
pub is_reported : (v : Effective) (value : ℕ) (group : Group) (terms : Terms) (reported : GroupExplanation)
    → IsListed (listed_value (macro_vector v)) value → IsSound (table_value v) group → AreTerms value group terms
    → reported.next ≡ terms.next → reported.distance ≡ terms.distance → reported.depth ≡ 840 / terms.part
    → reported.taken ≡ taken_by value terms → IsGroupExplanation (table_value v) group reported
is_reported v value group terms reported listed sound are is_next is_distance is_depth is_taken =
    let is_value : value ≡ table_value v = rw listed.is_value refl in
    record {
      next = is_next ∙ are.next;
      distance = ap pos is_distance ∙ are.distance;
      depth = is_depth ∙ are.depth;
      taken = rw (is_taken ∙ are.taken ∙ ap (λ n. taken n group) is_value) (taken_of (table_value v) group sound);
    }
