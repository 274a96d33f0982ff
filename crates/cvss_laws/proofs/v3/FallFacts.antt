-- Environmental scores that fall as a metric becomes more severe, computed.
use Rattle.std.proofs.Common.{codes, Some, None, ℕ, pos, refl, lit<, lit≤}
use Rattle.cvss_metric.specs.declared.v3.base.attack.AttackVector.TheVariants as attack_vector
use Rattle.cvss_metric.specs.declared.v3.base.attack.AttackComplexity.TheVariants as attack_complexity
use Rattle.cvss_metric.specs.declared.v3.base.access.PrivilegesRequired.TheVariants as privileges_required
use Rattle.cvss_metric.specs.declared.v3.base.access.UserInteraction.TheVariants as user_interaction
use Rattle.cvss_metric.specs.declared.v3.base.scope.Scope.{Scope}
use Rattle.cvss_metric.specs.declared.v3.base.scope.Scope.TheVariants.{Unchanged, Changed}
use Rattle.cvss_metric.specs.declared.v3.base.impact.Confidentiality.TheVariants as confidentiality
use Rattle.cvss_metric.specs.declared.v3.base.impact.Integrity.TheVariants as integrity
use Rattle.cvss_metric.specs.declared.v3.base.impact.Availability.{Availability}
use Rattle.cvss_metric.specs.declared.v3.base.impact.Availability.TheVariants as availability
use Rattle.cvss_metric.specs.declared.v3.environmental.requirement.ConfidentialityRequirement.TheVariants as confidentiality_requirement
use Rattle.cvss_metric.specs.declared.v3.environmental.requirement.IntegrityRequirement.TheVariants as integrity_requirement
use Rattle.cvss_metric.specs.declared.v3.environmental.requirement.AvailabilityRequirement.TheVariants as availability_requirement
use Rattle.cvss_score.specs.v3.Scores.{power, changed_impact, changed_modified_impact}
use Rattle.cvss_text.proofs.CanonicalLemmas.{canonical_text-denotes}
use Rattle.cvss_vector.specs.declared.v3.vector.Vector.{Vector}
use Rattle.cvss_vector.specs.v3.Vector.{v3}
use Rattle.cvss_vector.specs.v3.private.VectorLaws.{v3_laws}
use Rattle.cvss_laws.specs.v3.Severity.{AreEnvironmentalScores}
use Rattle.cvss_laws.proofs.v3.StandardFacts.{v30_if, v31_if}

abbrev empty : ℕ → Vector
empty minor = record {
  minor_version = minor;
  av = None;
  ac = None;
  pr = None;
  ui = None;
  s = None;
  c = None;
  i = None;
  a = None;
  e = None;
  rl = None;
  rc = None;
  cr = None;
  ir = None;
  ar = None;
  mav = None;
  mac = None;
  mpr = None;
  mui = None;
  ms = None;
  mc = None;
  mi = None;
  ma = None;
}

-- CVSS:3.0/AV:P/AC:H/PR:H/UI:R/S:C/C:H/I:H/CR:H/IR:L/AR:L with this Availability
abbrev with_availability : Availability → Vector
with_availability impact = record (empty 0) {
  av = Some attack_vector.Physical;
  ac = Some attack_complexity.High;
  pr = Some privileges_required.High;
  ui = Some user_interaction.Required;
  s = Some Changed;
  c = Some confidentiality.High;
  i = Some integrity.High;
  a = Some impact;
  cr = Some confidentiality_requirement.High;
  ir = Some integrity_requirement.Low;
  ar = Some availability_requirement.Low;
}

pub v30_fall : AreEnvironmentalScores (codes "CVSS:3.0/AV:P/AC:H/PR:H/UI:R/S:C/C:H/I:H/A:L/CR:H/IR:L/AR:L")
    (codes "CVSS:3.0/AV:P/AC:H/PR:H/UI:R/S:C/C:H/I:H/A:H/CR:H/IR:L/AR:L") 69 68
unfolding changed_impact power
v30_fall = record {
  first = with_availability availability.Low;
  second = with_availability availability.High;
  denotes_first = canonical_text-denotes v3 v3_laws (with_availability availability.Low);
  denotes_second = canonical_text-denotes v3 v3_laws (with_availability availability.High);
  no_less_severe = (
    lit≤ tt,
    (
      lit≤ tt,
      (
        lit≤ tt,
        (
          lit≤ tt,
          (
            lit≤ tt,
            (lit≤ tt, (lit≤ tt, (lit≤ tt, (lit≤ tt, (lit≤ tt, (lit≤ tt, (lit≤ tt, (lit≤ tt, (lit≤ tt, tt))))))))),
          ),
        ),
      ),
    ),
  );
  first_scored = record {
    number = pos 69;
    is_number = record {
      first = pos 69;
      is_first = v30_if _ (pos 69) refl refl;
      is_rounded = v30_if _ (pos 69) refl
          refl;
    };
    is_count = refl;
  };
  second_scored = record {
    number = pos 68;
    is_number = record {
      first = pos 68;
      is_first = v30_if _ (pos 68) refl refl;
      is_rounded = v30_if _ (pos 68) refl
          refl;
    };
    is_count = refl;
  };
}

-- CVSS:3.1/C:L/CR:L with this Scope
abbrev with_scope : Scope → Vector
with_scope scope =
    record (empty 1) { s = Some scope; c = Some confidentiality.Low; cr = Some confidentiality_requirement.Low }

pub incomplete_fall : AreEnvironmentalScores (codes "CVSS:3.1/S:U/C:L/CR:L") (codes "CVSS:3.1/S:C/C:L/CR:L") 8 7
unfolding changed_modified_impact power
incomplete_fall = record {
  first = with_scope Unchanged;
  second = with_scope Changed;
  denotes_first = canonical_text-denotes v3 v3_laws (with_scope Unchanged);
  denotes_second = canonical_text-denotes v3 v3_laws (with_scope Changed);
  no_less_severe = (
    lit≤ tt,
    (
      lit≤ tt,
      (
        lit≤ tt,
        (
          lit≤ tt,
          (
            lit≤ tt,
            (lit≤ tt, (lit≤ tt, (lit≤ tt, (lit≤ tt, (lit≤ tt, (lit≤ tt, (lit≤ tt, (lit≤ tt, (lit≤ tt, tt))))))))),
          ),
        ),
      ),
    ),
  );
  first_scored = record {
    number = pos 8;
    is_number = record {
      first = pos 8;
      is_first = v31_if _ _ 8 (lit< tt) refl refl;
      is_rounded = v31_if _ _ 8
          (lit< tt) refl refl;
    };
    is_count = refl;
  };
  second_scored = record {
    number = pos 7;
    is_number = record {
      first = pos 7;
      is_first = v31_if _ _ 7 (lit< tt) refl refl;
      is_rounded = v31_if _ _ 7
          (lit< tt) refl refl;
    };
    is_count = refl;
  };
}
