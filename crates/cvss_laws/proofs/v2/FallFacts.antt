-- An environmental score that falls as Confidentiality rises, computed.
use Rattle.std.proofs.Common.{codes, Some, None, pos, negsuc, refl, rules, lit≤}
use Rattle.cvss_metric.specs.declared.v2.base.access.AccessVector.TheVariants.{Local}
use Rattle.cvss_metric.specs.declared.v2.base.access.AccessComplexity.TheVariants.{High}
use Rattle.cvss_metric.specs.declared.v2.base.access.Authentication.TheVariants.{Multiple}
use Rattle.cvss_metric.specs.declared.v2.base.impact.ConfidentialityImpact.{ConfidentialityImpact}
use Rattle.cvss_metric.specs.declared.v2.base.impact.ConfidentialityImpact.TheVariants as confidentiality
use Rattle.cvss_metric.specs.declared.v2.base.impact.IntegrityImpact.TheVariants as integrity
use Rattle.cvss_metric.specs.declared.v2.base.impact.AvailabilityImpact.TheVariants as availability
use Rattle.cvss_metric.specs.declared.v2.environmental.loss.CollateralDamagePotential.TheVariants as damage
use Rattle.cvss_metric.specs.declared.v2.environmental.loss.TargetDistribution.TheVariants as distribution
use Rattle.cvss_metric.specs.declared.v2.environmental.requirement.ConfidentialityRequirement.TheVariants as requirement
use Rattle.cvss_text.proofs.CanonicalLemmas.{canonical_text-denotes}
use Rattle.cvss_vector.specs.declared.v2.vector.Vector.{Vector}
use Rattle.cvss_vector.specs.v2.Vector.{v2}
use Rattle.cvss_vector.specs.v2.private.VectorLaws.{v2_laws}
use Rattle.cvss_laws.specs.v2.Severity.{AreEnvironmentalScores}

-- AV:L/AC:H/Au:M/I:N/A:N/CDP:L/TD:H/CR:L with this Confidentiality
abbrev with_confidentiality : ConfidentialityImpact → Vector
with_confidentiality impact = record {
  av = Some Local;
  ac = Some High;
  au = Some Multiple;
  c = Some impact;
  i = Some integrity.None;
  a = Some availability.None;
  e = None;
  rl = None;
  rc = None;
  cdp = Some damage.Low;
  td = Some distribution.High;
  cr = Some requirement.Low;
  ir = None;
  ar = None;
}

pub environmental_fall : AreEnvironmentalScores (codes "AV:L/AC:H/Au:M/C:N/I:N/A:N/CDP:L/TD:H/CR:L")
    (codes "AV:L/AC:H/Au:M/C:P/I:N/A:N/CDP:L/TD:H/CR:L") 10 8
environmental_fall = record {
  first = with_confidentiality confidentiality.None;
  second = with_confidentiality confidentiality.Partial;
  denotes_first = canonical_text-denotes v2 v2_laws (with_confidentiality confidentiality.None);
  denotes_second = canonical_text-denotes v2 v2_laws (with_confidentiality confidentiality.Partial);
  no_less_severe = (
    lit≤ tt,
    (
      lit≤ tt,
      (
        lit≤ tt,
        (
          lit≤ tt,
          (
            lit≤ tt,
            (lit≤ tt, (lit≤ tt, (lit≤ tt, (lit≤ tt, (lit≤ tt, (lit≤ tt, (lit≤ tt, (lit≤ tt, (lit≤ tt, tt))))))))),
          ),
        ),
      ),
    ),
  );
  first_scored = record {
    number = pos 10;
    is_number = record {
      adjusted_temporal = pos 0;
      is_temporal = record { base = pos 0; is_base = search rules; is_rounded = search rules };
      is_rounded = search rules;
    };
    is_count = refl;
  };
  second_scored = record {
    number = pos 8;
    is_number = record {
      adjusted_temporal = negsuc 1;
      is_temporal = record { base = negsuc 1; is_base = search rules; is_rounded = search rules };
      is_rounded = search rules;
    };
    is_count = refl;
  };
}
