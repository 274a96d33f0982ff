-- The depth of each class is its greatest distance plus 1.
use Rattle.std.proofs.Common.{◌≡◌, ℕ, zero, suc, ◌+◌, Bool, true, ◌&&◌, ◌==◌, [], ◌∷◌, slice_get, unwrap_or, pos, ◌<ℤ◌, arith, ap, subst}
use Rattle.std.proofs.lemmas.Bool.{and_parts, eqb-true}
use Rattle.std.proofs.lemmas.Int.{ints}
use Rattle.cvss_laws.specs.v4.ClassLaws.{IsDepth}
use Rattle.cvss_score.specs.declared.v4.scoring.effective.Effective.{Effective}
use Rattle.cvss_score.specs.declared.v4.scoring.effective.AttackVector.TheVariants as attack_vector
use Rattle.cvss_score.specs.declared.v4.scoring.effective.PrivilegesRequired.TheVariants as privileges_required
use Rattle.cvss_score.specs.declared.v4.scoring.effective.UserInteraction.TheVariants as user_interaction
use Rattle.cvss_score.specs.declared.v4.scoring.effective.AttackComplexity.TheVariants as attack_complexity
use Rattle.cvss_score.specs.declared.v4.scoring.effective.AttackRequirements.TheVariants as attack_requirements
use Rattle.cvss_score.specs.declared.v4.scoring.effective.VulnerableImpact.TheVariants as impact
use Rattle.cvss_score.specs.declared.v4.scoring.effective.SubsequentImpact.TheVariants as subsequent
use Rattle.cvss_score.specs.declared.v4.scoring.effective.SafetyImpact.TheVariants as safety
use Rattle.cvss_score.specs.declared.v4.scoring.effective.Requirement.TheVariants as requirement
use Rattle.cvss_score.specs.declared.v4.scoring.effective.ExploitMaturity.TheVariants as exploit_maturity
use Rattle.cvss_score.proofs.v4_lemmas.LeastLemmas.{Scale, IsScale, distance}
use Rattle.cvss_score.proofs.v4_lemmas.TestLemmas.{Classes}
use Rattle.cvss_laws.proofs.v4.ClassLawLemmas.{Same}

-- values with the highest level of each metric
abbrev pub mildest : Effective
mildest = record {
  av = attack_vector.Physical;
  pr = privileges_required.High;
  ui = user_interaction.Active;
  ac = attack_complexity.High;
  at = attack_requirements.Present;
  vc = impact.None;
  vi = impact.None;
  va = impact.None;
  sc = subsequent.None;
  si = safety.None;
  sa = safety.None;
  cr = requirement.Low;
  ir = requirement.Low;
  ar = requirement.Low;
  e = exploit_maturity.Unreported;
}

-- values of the greatest distance in each class of EQ1, EQ2 and EQ4, and of EQ3 with EQ6
abbrev pub eq1_farthest : ℕ → Effective
eq1_farthest =
    let network = record mildest { av = attack_vector.Network } in
    λ class. unwrap_or (slice_get (record network { pr = privileges_required.None; ui = user_interaction.None } ∷ network ∷ []) class) mildest

abbrev pub eq2_farthest : ℕ → Effective
eq2_farthest class = unwrap_or (slice_get (record mildest { ac = attack_complexity.Low; at = attack_requirements.None } ∷ []) class) mildest

abbrev pub eq4_farthest : ℕ → Effective
eq4_farthest class = unwrap_or (slice_get (record mildest { si = safety.Safety } ∷ record mildest { sc = subsequent.High } ∷ []) class) mildest

abbrev pub eq3_eq6_farthest : ℕ × ℕ → Effective
eq3_eq6_farthest (zero, zero) = record mildest { vc = impact.High; vi = impact.High; cr = requirement.High }
eq3_eq6_farthest (zero, suc _) = record mildest { vc = impact.High; vi = impact.High }
eq3_eq6_farthest (suc zero, zero) = record mildest { vc = impact.High; cr = requirement.High }
eq3_eq6_farthest (suc zero, suc _) = record mildest { vc = impact.High }
eq3_eq6_farthest (suc (suc _), _) = mildest

-- the depth of a class is above each distance in it, so it is known by one that it is 1 above
module _ {V C : Type 0} (scale : Scale V C) {IsClass : C → Type 0} {AreSame : C → C → Type 0} (classes : Classes IsClass) (are : Same AreSame) (is : IsScale scale IsClass) (values : Effective → V) (farthest : C → Effective) where
  abbrev pub is_farthest : C → Bool
  is_farthest class =
      let v = values (farthest class) in
      are.same (scale.class v) class && (scale.sum v + 1 == scale.least class + scale.depth class)

  pub depth : classes.every is_farthest ≡ true → (class : C) → IsClass class
      → IsDepth (λ v. AreSame (scale.class (values v)) class) (λ v. distance scale (values v)) (scale.depth class)
  depth h class is_class =
      let v = values (farthest class) in
      let parts = and_parts (are.same (scale.class v) class) (scale.sum v + 1 == scale.least class + scale.depth class)
      (classes.each is_farthest h class is_class) in
      let of_class = are.reports (scale.class v) class parts.0 in
      let one_least = ap scale.least (are.one (scale.class v) class of_class) in
      let next = eqb-true (scale.sum v + 1) (scale.least class + scale.depth class) parts.1 in
      record {
        above = λ w same.
            subst (λ (class : C). distance scale (values w) <ℤ pos (scale.depth class)) (are.one (scale.class (values w)) class same)
            (let within = is.within (values w) in omega (arith, ints, within.is_sum, within.from_least, within.to_depth));
        farthest = farthest class;
        of_class = of_class;
        next = omega (arith, ints, one_least, next);
      }
