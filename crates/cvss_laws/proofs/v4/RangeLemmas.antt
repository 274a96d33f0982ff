-- With impact the number lies from 0.1 to 10, and no next lower value is above the value.
use Rattle.std.proofs.Common.{◌≡◌, ℕ, zero, suc, ◌≤◌, true, List, [], ◌∷◌, Option, Some, None, IfSome, refl, arith, lit<}
use Rattle.std.specs.List.{All}
use Rattle.std.proofs.lemmas.Int.{ints}
use Rattle.cvss_base.specs.Exact.{◌over◌, whole, ◌⊑◌}
use Rattle.cvss_base.proofs.ExactLemmas.{equal_sym, equal_at_most, at_most_trans}
use Rattle.cvss_score.specs.v4.Gap.{Group, next_lower}
use Rattle.cvss_score.specs.v4.Scores.{has_impact, number}
use Rattle.cvss_score.specs.declared.v4.scoring.effective.Effective.{Effective}
use Rattle.cvss_score.proofs.v4_lemmas.GroupLemmas.{table_value_listed}
use Rattle.cvss_score.proofs.v4_lemmas.MeanLemmas.{AreSound}
use Rattle.cvss_score.proofs.v4_lemmas.ScoreLawLemmas.{count_if, by_impact}
use Rattle.cvss_score.proofs.v4_lemmas.ScoreLemmas.{mean_left}
use Rattle.cvss_score.specs.v4.Values.{table_value}
use Rattle.cvss_laws.specs.v4.ScoreLaws.{IsFromTenthToTen}

-- what holds of each value that is there
if_there : (P : ℕ → Type 0) (next : Option ℕ) → ((lower : ℕ) → next ≡ Some lower → P lower) → IfSome next P
if_there P None each = tt
if_there P (Some lower) each = each lower refl

-- no next lower value of sound groups is above the value
pub sound_fall : (value : ℕ) (groups : List Group) → AreSound value groups
    → All (λ group. IfSome (next_lower group) (λ lower. lower ≤ value)) groups
sound_fall value [] are_sound k d in_list = absurd (omega arith)
sound_fall value (group ∷ rest) are_sound zero d in_list =
    if_there (λ lower. lower ≤ value) (next_lower group) (λ lower next. (are_sound.0.falls lower next).to_value)
sound_fall value (group ∷ rest) are_sound (suc k) d in_list = sound_fall value rest are_sound.1 k d (omega arith)

-- the number lies from 0.1 to 10
pub from_tenth_to_ten : (v : Effective) → has_impact v ≡ true → IsFromTenthToTen (number v)
from_tenth_to_ten v with_impact =
    let counted = by_impact v true with_impact in
    let n = count_if true v over 504000 in
    let value = table_value_listed v in
    let from_tenth : 1 over 10 ⊑ n = record { at_most = omega (arith, ints, mean_left v (table_value v) value, value.from_one) } in
    let to_ten : n ⊑ whole 10 = record { at_most = omega (arith, ints, value.to_hundred) } in
    record {
      from_tenth = at_most_trans (1 over 10) n (number v) (lit< tt) from_tenth (equal_at_most n (number v) (equal_sym counted.0));
      to_ten = at_most_trans (number v) n (whole 10) (lit< tt) (equal_at_most (number v) n counted.0) to_ten;
    }
