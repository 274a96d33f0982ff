-- Counts that are scores of one thing are found equal.
use Rattle.std.proofs.Common.{◌≡◌, ℤ, pos, true, ap, sym, subst, ◌∙◌, int_eq}
use Rattle.std.specs.Prelude.{◌^◌, ◌*ℤ◌}
use Rattle.std.proofs.lemmas.Bool.Decides.{Decides-int_eq}
use Rattle.cvss.specs.Tenths.{IsInTenths}
use Rattle.cvss.specs.laws.RoundingLaws.{IsOneCount}

pub equal_counts : {V : Type 0} (IsScore : V → ℤ → Type 0) {v w : V} → v ≡ w → IsOneCount (IsScore w) → (a b : ℤ) → IsScore v a → IsScore w b → int_eq a b ≡ true
equal_counts IsScore same once a b is_a is_b = (Decides-int_eq a b).1 (once a b (subst (λ v. IsScore v a) same is_a) is_b)

-- where a number is one, its count is one
pub one_value : {V : Type 0} (IsNumber : V → ℤ → Type 0) {v w : V} → v ≡ w → IsOneCount (IsNumber w) → (a b : ℤ) → IsInTenths (IsNumber v) a → IsInTenths (IsNumber w) b → a ≡ b
one_value IsNumber same once a b first second =
    let moved = subst (λ v. IsInTenths (IsNumber v) a) same first in
    moved.is_count ∙ ap (λ number. number *ℤ pos (10 ^ 23)) (once moved.number second.number moved.is_number second.is_number) ∙ sym second.is_count
