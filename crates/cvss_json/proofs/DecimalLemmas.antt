-- The places of a decimal are its digits.
use Rattle.std.proofs.Common.{◌≡◌, ◌≢◌, ◌<◌, ◌+◌, ◌-◌, ◌*◌, ◌/◌, ◌%◌, ◌^◌, ℕ, if◌then◌else◌, nat_eq, ℤ, unsigned_abs, List, [], ◌∷◌, length, slice_index, refl, ap, arith}
use Rattle.std.proofs.lemmas.Bool.{cond_both, eqb-true}
use Rattle.std.proofs.lemmas.Bool.Decides.{nat_tests}
use Rattle.std.proofs.lemmas.List.Elements.{All-from_recursion}
use Rattle.std.specs.List.{AllByRecursion}
use Rattle.cvss_json.specs.Json.{decimal_text, place_units, places, places_text}
use Rattle.cvss_json.specs.laws.Decimals.{IsShortestDecimal, number_of}

by_test : (P : List ℕ → Type 0) (m : ℕ) (x y : List ℕ) → (m ≡ 0 → P x) → (0 < m → P y) → P (if nat_eq m 0 then x else y)
by_test P m x y first second =
    cond_both (nat_eq m 0) x y P (λ is. first (eqb-true m 0 is)) (λ is. second (grind (arith, nat_tests, is)))

module _ (n : ℕ) where
  small : (units : List ℕ) → AllByRecursion (λ digit. digit < 10) (places units n)
  small [] = tt
  small (unit ∷ units) =
      by_test (λ rest. AllByRecursion (λ digit. digit < 10) (n / unit % 10 ∷ rest)) (n % unit) [] (places units n)
      (λ _. (omega arith, tt)) (λ _. (omega arith, small units))

  -- the digits make the number, and no zero ends several
  abbrev AreOf : List ℕ → Type 0
  AreOf digits = (0 < length digits) × (number_of digits * 10_000_000 ≡ n * 10 ^ length digits) × (1 < length digits → slice_index digits (length digits - 1) ≢ 0)

  module _ (below : n < 10_000_000) where
    are : AreOf (places place_units n)
    are =
        let a = n / 1_000_000 % 10 in
        let b = n / 100_000 % 10 in
        let c = n / 10_000 % 10 in
        let d = n / 1000 % 10 in
        let e = n / 100 % 10 in
        let f = n / 10 % 10 in
        by_test (λ rest. AreOf (a ∷ rest)) (n % 1_000_000) [] _ (λ none. (omega arith, omega (arith, none, below), λ several. absurd (omega (arith, several)))) (λ some.
        by_test (λ rest. AreOf (a ∷ b ∷ rest)) (n % 100_000) [] _ (λ none. (omega arith, omega (arith, none, below), λ _ is. omega (arith, none, some, is))) (λ some.
        by_test (λ rest. AreOf (a ∷ b ∷ c ∷ rest)) (n % 10_000) [] _ (λ none. (omega arith, omega (arith, none, below), λ _ is. omega (arith, none, some, is))) (λ some.
        by_test (λ rest. AreOf (a ∷ b ∷ c ∷ d ∷ rest)) (n % 1000) [] _ (λ none. (omega arith, omega (arith, none, below), λ _ is. omega (arith, none, some, is))) (λ some.
        by_test (λ rest. AreOf (a ∷ b ∷ c ∷ d ∷ e ∷ rest)) (n % 100) [] _ (λ none. (omega arith, omega (arith, none, below), λ _ is. omega (arith, none, some, is))) (λ some.
        by_test (λ rest. AreOf (a ∷ b ∷ c ∷ d ∷ e ∷ f ∷ rest)) (n % 10) [] _ (λ none. (omega arith, omega (arith, none, below), λ _ is. omega (arith, none, some, is))) (λ some.
        by_test (λ rest. AreOf (a ∷ b ∷ c ∷ d ∷ e ∷ f ∷ n / 1 % 10 ∷ rest)) (n % 1) [] _ (λ none. (omega arith, omega (arith, none, below), λ _ is. omega (arith, none, some, is))) (λ some. absurd (omega (arith, some)))))))))

pub shortest : (count : ℤ) → IsShortestDecimal count (decimal_text count)
unfolding decimal_text places_text
shortest count =
    let whole = unsigned_abs count / 10_000_000 in
    let left = unsigned_abs count % 10_000_000 in
    let digits = places place_units left in
    let is = are left (omega arith) in
    let parts : unsigned_abs count ≡ whole * 10_000_000 + left = omega arith in
    record {
      whole = whole;
      places = digits;
      written = refl;
      digits = All-from_recursion (λ digit. digit < 10) digits (small left place_units);
      value = omega (arith, is.1, ap (λ n. n * 10 ^ length digits) parts);
      any_place = is.0;
      shortest = is.2;
    }
