-- Weights have one temporal and one environmental score.
use Rattle.std.proofs.Common.{◌≡◌, ℕ, ℤ, subst, lit<}
use Rattle.cvss_base.specs.laws.Rounding.{IsOneCount}
use Rattle.cvss_base.proofs.TenthsLemmas.{in_tenths_once}
use Rattle.cvss_score.specs.v3.Scores.{temporal_number, IsRounded, IsTemporal, IsEnvironmental, IsTemporalScore, IsEnvironmentalScore}
use Rattle.cvss_score.specs.declared.v3.weights.Weights.{Weights}
use Rattle.cvss_score.proofs.v3_lemmas.EqualLemmas.{rounded_once}
use Rattle.cvss_score.proofs.v3_lemmas.LawLemmas.{base_once, first_once}

-- of equal tenths the products with E, RL and RC have one rounding
product_once : (minor : ℕ) (w : Weights) (m n r s : ℤ) → m ≡ n → IsRounded minor (temporal_number m w) r
    → IsRounded minor (temporal_number n w) s → r ≡ s
product_once minor w m n r s same is_r is_s =
    rounded_once minor (temporal_number n w) r s (lit< tt) (subst (λ z. IsRounded minor (temporal_number z w) r) same is_r) is_s

temporal_once : (minor : ℕ) (w : Weights) → IsOneCount (IsTemporal minor w)
temporal_once minor w r s is_r is_s =
    product_once minor w is_r.base is_s.base r s (base_once minor w is_r.base is_s.base is_r.is_base is_s.is_base)
    is_r.is_rounded is_s.is_rounded

environmental_once : (minor : ℕ) (w : Weights) → IsOneCount (IsEnvironmental minor w)
environmental_once minor w r s is_r is_s =
    let first = first_once minor w is_r.first is_s.first is_r.is_first is_s.is_first in
    product_once minor w is_r.first is_s.first r s first is_r.is_rounded is_s.is_rounded

pub temporal_score_once : (minor : ℕ) (w : Weights) → IsOneCount (IsTemporalScore minor w)
temporal_score_once minor w = in_tenths_once (IsTemporal minor w) (temporal_once minor w)

pub environmental_score_once : (minor : ℕ) (w : Weights) → IsOneCount (IsEnvironmentalScore minor w)
environmental_score_once minor w = in_tenths_once (IsEnvironmental minor w) (environmental_once minor w)
