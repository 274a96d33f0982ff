-- The highest severity vectors of the classes and their least sums.
use Rattle.std.proofs.Common.{◌≡◌, ℕ, Bool, true, false, ◌&&◌, ◌==◌, leb, List, [], ◌∷◌, arith, slice_index_or}
use Rattle.std.specs.List.{list_all, list_any}
use Rattle.std.proofs.lemmas.Bool.{and_parts, eqb-true}
use Rattle.std.proofs.lemmas.Bool.Decides.{nat_tests}
use Rattle.std.proofs.lemmas.List.Folds.{Any-from_list_any}
use Rattle.std.proofs.lemmas.List.Sums.{AllPass-from_list_all}
use Rattle.cvss_laws.specs.v4.ClassLaws.{IsDominated, HaveLeastSum}
use Rattle.cvss_score.specs.AtMost.{IsAtMost}
use Rattle.cvss_score.proofs.v4_lemmas.LeastLemmas.{Scale}
use Rattle.cvss_score.proofs.v4_lemmas.TestLemmas.{Finite, Classes}

-- when two classes are the same, which are then one, and a test of it
pub record Same {C : Type 0} (AreSame : C → C → Type 0) : Type 0 where
  pub same : C → C → Bool
  pub reports : (x y : C) → same x y ≡ true → AreSame x y
  pub one : (x y : C) → AreSame x y → x ≡ y

abbrev pub one_number : Same (λ (x y : ℕ). x ≡ y)
one_number = record { same = λ x y. x == y; reports = λ x y h. eqb-true x y h; one = λ x y same. same }

abbrev pub one_pair : Same (λ (x y : ℕ × ℕ). (x.0 ≡ y.0) × (x.1 ≡ y.1))
one_pair = record {
  same = λ x y. (x.0 == y.0) && (x.1 == y.1);
  reports = λ x y h. let parts = and_parts (x.0 == y.0) (x.1 == y.1) h in (eqb-true x.0 y.0 parts.0, eqb-true x.1 y.1 parts.1);
  one = λ x y same i. (same.0 i, same.1 i);
}

-- no level is above that of the same place of as many, as a test
abbrev pub is_at_most : List ℕ → List ℕ → Bool
is_at_most [] [] = true
is_at_most [] (other ∷ others) = false
is_at_most (level ∷ rest) [] = false
is_at_most (level ∷ rest) (other ∷ others) = leb level other && is_at_most rest others

at_most : (levels others : List ℕ) → is_at_most levels others ≡ true → IsAtMost levels others
at_most [] [] h = tt
at_most [] (other ∷ others) h = cc
at_most (level ∷ rest) [] h = cc
at_most (level ∷ rest) (other ∷ others) h =
    let parts = and_parts (leb level other) (is_at_most rest others) h in
    (grind (arith, nat_tests), at_most rest others parts.1)

-- some listed values dominate these, as a test
abbrev pub is_dominated : {V : Type 0} → (V → List ℕ) → List V → V → Bool
is_dominated levels maximal v = list_any (λ m. is_at_most (levels m) (levels v)) maximal

pub dominated : {V : Type 0} (values : Finite V) (levels : V → List ℕ) (maximal : V → List V)
    → values.every (λ v. is_dominated levels (maximal v) v) ≡ true → (v : V) → IsDominated levels (maximal v) v
dominated values levels maximal h v =
    let found = Any-from_list_any (λ m. is_at_most (levels m) (levels v)) (maximal v) (values.each (λ v. is_dominated levels (maximal v) v) h v) in
    (found.0, found.1, found.2, found.3, at_most (levels found.1) (levels v) found.4)

-- the listed values of a class are of it and have its least sum, as a test
module _ {V C : Type 0} (scale : Scale V C) {IsClass : C → Type 0} {AreSame : C → C → Type 0} (classes : Classes IsClass) (are : Same AreSame) (maximal : C → List V) where
  abbrev is_least : C → V → Bool
  is_least class m = are.same (scale.class m) class && (scale.sum m == scale.least class)

  abbrev pub are_least : C → Bool
  are_least class = list_all (is_least class) (maximal class)

  pub have_least : classes.every are_least ≡ true → (class : C) → IsClass class
      → HaveLeastSum (λ m. AreSame (scale.class m) class) scale.sum (maximal class) (scale.least class)
  have_least h class is =
      let all = AllPass-from_list_all (is_least class) (maximal class) (classes.each are_least h class is) in
      λ k d in_list.
      let m = slice_index_or (maximal class) k d in
      let parts = and_parts (are.same (scale.class m) class) (scale.sum m == scale.least class) (all k d in_list) in
      (are.reports (scale.class m) class parts.0, eqb-true (scale.sum m) (scale.least class) parts.1)
