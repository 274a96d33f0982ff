-- Effective values with no higher level have no higher number in any equivalence class.
use Rattle.std.proofs.Common.{◌≡◌, ℕ, ◌≤◌, Bool, true, false, not, ◌&&◌, ◌||◌, leb, ltb, List, [], ◌∷◌, inl, inr, if◌then◌else◌, refl, arith}
use Rattle.std.proofs.lemmas.Bool.{leb-true, or_cases, false≢true}
use Rattle.std.proofs.lemmas.Bool.Decides.{nat_tests}
use Rattle.cvss_score.specs.AtMost.{IsAtMost}
use Rattle.cvss_score.specs.v4.Classes.{eq1, eq2, eq3, eq4, eq5, eq6, macro_vector, is_vulnerable_high, is_requirement_high}
use Rattle.cvss_score.specs.v4.Levels.{vulnerable_level, requirement_level}
use Rattle.cvss_score.specs.declared.v4.scoring.classes.MacroVector.{MacroVector}
use Rattle.cvss_score.specs.declared.v4.scoring.effective.Effective.{Effective}
use Rattle.cvss_score.specs.declared.v4.scoring.effective.VulnerableImpact.{VulnerableImpact}
use Rattle.cvss_score.specs.declared.v4.scoring.effective.VulnerableImpact.TheVariants as impact
use Rattle.cvss_score.specs.declared.v4.scoring.effective.Requirement.{Requirement}
use Rattle.cvss_score.specs.declared.v4.scoring.effective.Requirement.TheVariants as requirement
use Rattle.cvss_score.proofs.v4_lemmas.SevereLemmas.{kept, either_kept}
use Rattle.cvss_score.proofs.v4_lemmas.TestLemmas.{Finite, each_eq1, each_eq2, each_eq4}
use Rattle.cvss_laws.specs.v4.Maximal.{eq1_levels, eq2_levels, eq4_levels}
use Rattle.cvss_laws.specs.v4.Severity.{all_levels}

-- whether no number of a list is above that of the same place
abbrev are_at_most : List ℕ → List ℕ → Bool
are_at_most [] [] = true
are_at_most [] (other ∷ others) = false
are_at_most (number ∷ rest) [] = false
are_at_most (number ∷ rest) (other ∷ others) = leb number other && are_at_most rest others

at_most_is : (xs ys : List ℕ) → IsAtMost xs ys → are_at_most xs ys ≡ true
at_most_is [] [] more = refl
at_most_is [] (y ∷ ys) more = absurd more
at_most_is (x ∷ xs) [] more = absurd more
at_most_is (x ∷ xs) (y ∷ ys) more =
    let first = more.0 in let rest = at_most_is xs ys more.1 in grind (arith, nat_tests)

-- whether values with no higher level have no higher number
module _ {V : Type 0} (values : Finite V) (levels : V → List ℕ) (number : V → ℕ) where
  abbrev are_ordered : V → V → Bool
  are_ordered v w = not (are_at_most (levels v) (levels w)) || leb (number v) (number w)

  abbrev all_ordered : Bool
  all_ordered = values.every (λ v. values.every (are_ordered v))

  number_ordered : all_ordered ≡ true → (v w : V) → IsAtMost (levels v) (levels w) → number v ≤ number w
  number_ordered all v w more =
      let ordered = values.each (are_ordered v) (values.each (λ v. values.every (are_ordered v)) all v) w in
      elim (or_cases (not (are_at_most (levels v) (levels w))) _ ordered) [
        | inl not_at_most ↦ let is = at_most_is (levels v) (levels w) more in absurd (false≢true cc)
        | inr order ↦ leb-true (number v) (number w) order
      ]

eq1_ordered : all_ordered each_eq1 eq1_levels (λ v. eq1 v.0 v.1 v.2) ≡ true
eq1_ordered = refl

eq2_ordered : all_ordered each_eq2 eq2_levels (λ v. eq2 v.0 v.1) ≡ true
eq2_ordered = refl

eq4_ordered : all_ordered each_eq4 eq4_levels (λ v. eq4 v.0 v.1 v.2) ≡ true
eq4_ordered = refl

-- what is high stays so at a lower level
vulnerable_high_is : (x : VulnerableImpact) → is_vulnerable_high x ≡ ltb (vulnerable_level x) 1
vulnerable_high_is = elim [ impact.High ↦ refl | _ ↦ refl ]

requirement_high_is : (x : Requirement) → is_requirement_high x ≡ ltb (requirement_level x) 1
requirement_high_is = elim [ requirement.High ↦ refl | _ ↦ refl ]

both_kept : (x y a b : Bool) → (x ≡ true → a ≡ true) → (y ≡ true → b ≡ true) → (x && y) ≡ true → (a && b) ≡ true
both_kept true true a b left right h = rw (left refl, right refl) refl
both_kept true false a b left right h = absurd (false≢true h)
both_kept false y a b left right h = absurd (false≢true h)

-- of three numbers, and of two
three_ordered : (p q p' q' : Bool) → (p' ≡ true → p ≡ true) → (q' ≡ true → q ≡ true)
    → (if p then 0 else (if q then 1 else 2)) ≤ (if p' then 0 else (if q' then 1 else 2))
three_ordered true q p' q' first second = omega arith
three_ordered false q true q' first second = absurd (false≢true (first refl))
three_ordered false true false true first second = omega arith
three_ordered false true false false first second = omega arith
three_ordered false false false true first second = absurd (false≢true (second refl))
three_ordered false false false false first second = omega arith

two_ordered : (p p' : Bool) → (p' ≡ true → p ≡ true) → (if p then 0 else 1) ≤ (if p' then 0 else 1)
two_ordered true p' first = omega arith
two_ordered false true first = absurd (false≢true (first refl))
two_ordered false false first = omega arith

-- no number of the first is above that of the second
pub record AreClassesOrdered (m k : MacroVector) : Type 0 where
  pub eq1 : m.eq1 ≤ k.eq1
  pub eq2 : m.eq2 ≤ k.eq2
  pub eq3 : m.eq3 ≤ k.eq3
  pub eq4 : m.eq4 ≤ k.eq4
  pub eq5 : m.eq5 ≤ k.eq5
  pub eq6 : m.eq6 ≤ k.eq6

pub classes_ordered : (v w : Effective) → IsAtMost (all_levels v) (all_levels w)
    → AreClassesOrdered (macro_vector v) (macro_vector w)
classes_ordered v w (e, (av, (pr, (ui, (ac, (at, (vc, (vi, (va, (sc, (si, (sa, (cr, (ir, (ar, _))))))))))))))) =
    let high : (x y : VulnerableImpact) → vulnerable_level x ≤ vulnerable_level y → is_vulnerable_high y ≡ true
    → is_vulnerable_high x ≡ true =
    λ x y. kept _ _ _ _ 1 (vulnerable_high_is x) (vulnerable_high_is y) in
    let needed : (x y : Requirement) → requirement_level x ≤ requirement_level y → is_requirement_high y ≡ true
    → is_requirement_high x ≡ true =
    λ x y. kept _ _ _ _ 1 (requirement_high_is x) (requirement_high_is y) in
    record {
      eq1 = number_ordered each_eq1 eq1_levels (λ v. eq1 v.0 v.1 v.2) eq1_ordered (v.av, v.pr, v.ui)
          (w.av, w.pr, w.ui) (av, (pr, (ui, tt)));
      eq2 = number_ordered each_eq2 eq2_levels (λ v. eq2 v.0 v.1) eq2_ordered (v.ac, v.at) (w.ac, w.at) (ac, (at, tt));
      eq3 = three_ordered _ _ _ _ (both_kept _ _ _ _ (high v.vc w.vc vc) (high v.vi w.vi vi))
          (either_kept _ _ _ _ (high v.vc w.vc vc) (either_kept _ _ _ _ (high v.vi w.vi vi) (high v.va w.va va)));
      eq4 = number_ordered each_eq4 eq4_levels (λ v. eq4 v.0 v.1 v.2) eq4_ordered (v.sc, v.si, v.sa)
          (w.sc, w.si, w.sa) (sc, (si, (sa, tt)));
      eq5 = e;
      eq6 = two_ordered _ _ (either_kept _ _ _ _ (both_kept _ _ _ _ (needed v.cr w.cr cr) (high v.vc w.vc vc))
          (either_kept _ _ _ _ (both_kept _ _ _ _ (needed v.ir w.ir ir) (high v.vi w.vi vi))
          (both_kept _ _ _ _ (needed v.ar w.ar ar) (high v.va w.va va))));
    }
