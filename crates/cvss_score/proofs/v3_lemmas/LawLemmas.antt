-- Weights have one base score, and one first rounding of the environmental score.
use Rattle.std.proofs.Common.{ℕ}
use Rattle.cvss_base.specs.laws.Rounding.{IsOneCount}
use Rattle.cvss_base.proofs.TenthsLemmas.{in_tenths_once}
use Rattle.cvss_score.specs.v3.Scores.{base_number, environmental_number, IsRounded, IsBase, IsBaseScore}
use Rattle.cvss_score.specs.declared.v3.weights.Weights.{Weights}
use Rattle.cvss_score.proofs.v3_lemmas.EqualLemmas.{base_bottom, environmental_bottom, rounded_once}

pub base_once : (minor : ℕ) (w : Weights) → IsOneCount (IsBase minor w)
base_once minor w r s is_r is_s = rounded_once minor (base_number w) r s (base_bottom w) is_r is_s

pub first_once : (minor : ℕ) (w : Weights) → IsOneCount (IsRounded minor (environmental_number minor w))
first_once minor w r s is_r is_s = rounded_once minor (environmental_number minor w) r s (environmental_bottom minor w) is_r is_s

pub base_score_once : (minor : ℕ) (w : Weights) → IsOneCount (IsBaseScore minor w)
base_score_once minor w = in_tenths_once (IsBase minor w) (base_once minor w)
