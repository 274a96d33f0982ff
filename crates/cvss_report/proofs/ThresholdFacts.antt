-- Values that the specifications and docs/PROGRAMS.md give.
use Rattle.std.proofs.Common.{◌≡◌, codes, refl}
use Rattle.std.proofs.Common as option
use Rattle.std.specs.Option.{option_map}
use Rattle.cvss_base.specs.SeverityScale.{severity_of_score}
use Rattle.cvss_base.specs.SeverityText.{text_of}
use Rattle.cvss_base.specs.declared.severity.Severity.{Severity}
use Rattle.cvss_base.specs.declared.severity.Severity.TheVariants.{None, Low, Medium, High, Critical}
use Rattle.cvss_report.specs.Thresholds.{threshold}
use Rattle.cvss_vector.specs.Answers.{score_of_tenths}

-- a severity begins with its lowest score
begins : (severity : Severity) → option_map (λ tenths. severity_of_score (score_of_tenths tenths)) (threshold (text_of severity)) ≡ option.Some severity
begins None = refl
begins Low = refl
begins Medium = refl
begins High = refl
begins Critical = refl

-- and the one before it ends there
below_low : severity_of_score (score_of_tenths 0) ≡ None
below_low = refl

below_medium : severity_of_score (score_of_tenths 39) ≡ Low
below_medium = refl

below_high : severity_of_score (score_of_tenths 69) ≡ Medium
below_high = refl

below_critical : severity_of_score (score_of_tenths 89) ≡ High
below_critical = refl

-- texts that say scores, and one that does not
seven : threshold (codes "7") ≡ option.Some 70
seven = refl

nine_and_a_half : threshold (codes "9.5") ≡ option.Some 95
nine_and_a_half = refl

ten : threshold (codes "10.0") ≡ option.Some 100
ten = refl

above_ten : threshold (codes "10.1") ≡ option.None
above_ten = refl

high : threshold (codes "High") ≡ option.Some 70
high = refl
