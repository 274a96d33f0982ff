-- What is said of a step by the number that it is made of.
use Rattle.std.proofs.Common.{◌≡◌, ◌∙◌, ℕ, ◌*◌, ◌^◌, ◌<◌, ℤ, pos, Bool, refl, subst, sym}
use Rattle.std.specs.Int.{int_max}
use Rattle.cvss_base.specs.Exact.{Exact, of_count, ◌over◌, ◌≈◌}
use Rattle.cvss_score.specs.v2.Scores.{IsPublished}
use Rattle.cvss_score.specs.v3.private.Near.{Approximates}
use Rattle.cvss_vector.specs.Answers.{score_of_tenths}
use Rattle.cvss_vector.specs.declared.published.Bounds.TheVariants.{OfV2}
use Rattle.cvss_explain.proofs.CloseLemmas.{near_by, near_units}
use Rattle.cvss_explain.proofs.NearLemmas.{near_equal}
use Rattle.cvss_explain.specs.Near.{AreNearest, IsNear, IsNearBy, IsNearOf}
use Rattle.cvss_explain.specs.Steps.{IsNumber, IsScore}
use Rattle.cvss_explain.specs.declared.step.Amount.{Amount}
use Rattle.cvss_explain.specs.declared.step.Amount.TheVariants.{Rated}
use Rattle.cvss_explain.specs.declared.step.Quantity.{Quantity}
use Rattle.cvss_explain.specs.declared.step.Step.{Step}

module _ {quantity : Quantity} {step : Step} where
  weaker : {Is Is' : ℤ → Type 0} → ((k : ℤ) → Is k → Is' k) → IsNumber quantity Is step → IsNumber quantity Is' step
  weaker makes number = record { count = number.count; is_count = makes number.count number.is_count; is = number.is }

  -- the number c' is c as it is passed to the call that makes the step
  pub near_step : (n : Exact) (c c' : ℤ) → c' ≡ c → 0 < n.bottom → of_count c ≈ n → IsNumber quantity (AreNearest c') step
      → IsNumber quantity (IsNear n) step
  near_step n c c' same some is = weaker (λ k nearest. near_equal n c k some is (rw same at nearest))

  pub near_by_step : (changed : Bool) (n : Exact) (c c' : ℤ) → c' ≡ c → 0 < n.bottom → Approximates changed (of_count c) n
      → IsNumber quantity (AreNearest c') step → IsNumber quantity (IsNearBy changed n) step
  near_by_step changed n c c' same some is = weaker (λ k nearest. near_by changed n c k some is (rw same at nearest))

  pub near_units_step : (changed : Bool) (n : Exact) (u u' : ℕ) → u' ≡ u → 0 < n.bottom → Approximates changed (u over (10 ^ 13)) n
      → IsNumber quantity (AreNearest (pos (u' * 10 ^ 11))) step → IsNumber quantity (IsNearBy changed n) step
  near_units_step changed n u u' same some is = weaker (λ k nearest. near_units changed n u k some is (rw same at nearest))

  pub exact_step : (Is : ℤ → Type 0) (k k' : ℤ) → k' ≡ k → Is k → IsNumber quantity (λ count. count ≡ k') step → IsNumber quantity Is step
  exact_step Is k k' same is = weaker (λ count equal. subst Is (sym (equal ∙ same)) is)

  -- a number that is made of tenths
  pub near_of_step : {IsTenths : ℤ → Type 0} (number : ℤ → Exact) (tenths : ℤ) → IsTenths tenths → IsNumber quantity (IsNear (number tenths)) step
      → IsNumber quantity (IsNearOf IsTenths number) step
  near_of_step number tenths are = weaker (λ k near. record { tenths = tenths; are_tenths = are; near = near })

  pub score_step : (amount : ℕ → Amount) (Is : ℤ → Type 0) (t t' : ℕ) → t' ≡ t → Is (score_of_tenths t)
      → step ≡ record { quantity = quantity; amount = amount t' } → IsScore quantity amount Is step
  score_step amount Is t t' same is made = record { tenths = t; is_score = is; is = rw same at made }

  -- a score that is raised to 0 where it is negative
  pub published_step : (IsTenths : ℤ → Type 0) (number : ℤ) (t t' : ℕ) → t' ≡ t → pos t ≡ int_max (pos 0) number → IsTenths number
      → step ≡ record { quantity = quantity; amount = Rated OfV2 t' } → IsScore quantity (Rated OfV2) (IsPublished IsTenths) step
  published_step IsTenths number t t' same raised is =
      score_step (Rated OfV2) (IsPublished IsTenths) t t' same (record { number = number; is_number = is; is_count = rw (sym raised) refl })
