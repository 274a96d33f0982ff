-- A vector has one score of each kind, by each rounding that gives equal numbers one tenth.
use Rattle.std.proofs.Common.{◌<◌, ℤ, pos, ap, ◌∙◌, sym, subst, arith, lit<, ◌*ℤ◌, ◌^◌}
use Rattle.std.specs.Int.{int_max}
use Rattle.cvss_base.specs.Exact.{Exact, thousandths, tenths}
use Rattle.cvss_base.specs.Rounding.{IsRoundedV2}
use Rattle.cvss_base.proofs.ExactLemmas.{equal_refl}
use Rattle.cvss_base.proofs.RoundingLemmas.{v2-unique}
use Rattle.cvss_score.specs.declared.v2.weights.Weights.{Weights}
use Rattle.cvss_score.specs.v2.Scores.{impact, adjusted_impact, temporal_number, environmental_number, IsBase, IsTemporal, IsBaseBy, IsTemporalBy, IsEnvironmentalBy, IsPublished, IsBaseScore}
use Rattle.cvss_base.specs.laws.Rounding.{IsOneCount, RoundsOneWay}

pub published_once : (IsNumber : ℤ → Type 0) → IsOneCount IsNumber → IsOneCount (IsPublished IsNumber)
published_once IsNumber once r s is_r is_s =
    let number = once is_r.number is_s.number is_r.is_number is_s.is_number in
    is_r.is_count ∙ (ap (λ n. int_max (pos 0) n *ℤ pos (10 ^ 23)) number ∙ sym is_s.is_count)

module _ (IsRounded : Exact → ℤ → Type 0) (one_way : RoundsOneWay IsRounded) where
  rounded_once : (x : Exact) → 0 < x.bottom → IsOneCount (IsRounded x)
  rounded_once x some r s is_r is_s = one_way x x r s some some (equal_refl x) is_r is_s

  pub base_once : (w : Weights) (x : Exact) → 0 < x.bottom → IsOneCount (IsBaseBy IsRounded w x)
  base_once w x some_x = rounded_once _ (omega arith)

  pub temporal_once : (w : Weights) (x : Exact) → 0 < x.bottom → IsOneCount (IsTemporalBy IsRounded w x)
  temporal_once w x some_x r s is_r is_s =
      let base = base_once w x some_x is_r.base is_s.base is_r.is_base is_s.is_base in
      let of_base : ℤ → Exact = λ n. temporal_number (tenths n) (thousandths w.e) (thousandths w.rl) (thousandths w.rc) in
      let r_rounded = subst (λ n. IsRounded (of_base n) r) base is_r.is_rounded in
      rounded_once (of_base is_s.base) (lit< tt) r s r_rounded is_s.is_rounded

  pub environmental_once : (w : Weights) → IsOneCount (IsEnvironmentalBy IsRounded w)
  environmental_once w r s is_r is_s =
      let temporal = temporal_once w (adjusted_impact w) (lit< tt) is_r.adjusted_temporal is_s.adjusted_temporal is_r.is_temporal is_s.is_temporal in
      let of_temporal : ℤ → Exact = λ n. environmental_number (tenths n) (thousandths w.cdp) (thousandths w.td) in
      let r_rounded = subst (λ n. IsRounded (of_temporal n) r) temporal is_r.is_rounded in
      rounded_once (of_temporal is_s.adjusted_temporal) (lit< tt) r s r_rounded is_s.is_rounded

-- one base score with an impact, and one temporal score
pub base_alone : (w : Weights) (x : Exact) → 0 < x.bottom → IsOneCount (IsBase w x)
base_alone = base_once IsRoundedV2 v2-unique

pub temporal_alone : (w : Weights) (x : Exact) → 0 < x.bottom → IsOneCount (IsTemporal w x)
temporal_alone = temporal_once IsRoundedV2 v2-unique

pub base_score_once : (w : Weights) → IsOneCount (IsBaseScore w)
base_score_once w = published_once (IsBase w (impact w)) (base_alone w (impact w) (lit< tt))
