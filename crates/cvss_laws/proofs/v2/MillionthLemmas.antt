-- The 10^-6 of the v2 rounding changes no published score of a vector.
use Rattle.std.specs.Prelude.{◌↔◌}
use Rattle.std.specs.Int.{int_max}
use Rattle.std.proofs.Common.{◌≡◌, ◌^◌, ℤ, pos, ◌*ℤ◌, ap, ◌∙◌, refl, sym, lit<}
use Rattle.cvss_base.specs.Rounding.{IsNearestAway, IsRoundedV2}
use Rattle.cvss_base.specs.laws.Rounding.{IsOneCount}
use Rattle.cvss_base.proofs.RoundingLemmas.{v2-unique, nearest_away-unique, v2_tenths, v2_is, nearest_tenths, nearest_is}
use Rattle.cvss_vector.specs.declared.v2.vector.Vector.{Vector}
use Rattle.cvss_score.specs.v2.Scores.{impact, adjusted_impact, exploitability, base_number, IsPublished, IsBaseBy, IsTemporalBy, IsEnvironmentalBy, IsBaseScore, IsTemporalScore, IsEnvironmentalScore, IsBaseScoreBy, IsTemporalScoreBy, IsEnvironmentalScoreBy}
use Rattle.cvss_vector.specs.v2.Weights.{weights_of}
use Rattle.cvss_laws.proofs.v2.ComputedLemmas.{above_least, place, base_is_alike, adjusted_base_is_alike, temporal_from, temporal_is_alike, environmental_from, environmental_is_alike}
use Rattle.cvss_score.proofs.v2_lemmas.UniqueLemmas.{base_once, temporal_once, environmental_once}

-- what is published of the one number of tenths is published of another that gives the same
published_as : (IsNumber IsOther : ℤ → Type 0) → IsOneCount IsNumber → (r s : ℤ) → IsNumber r → IsOther s
    → int_max (pos 0) r ≡ int_max (pos 0) s → (count : ℤ) → IsPublished IsNumber count → IsPublished IsOther count
published_as IsNumber IsOther once r s is_r is_s same count counts = record {
  number = s;
  is_number = is_s;
  is_count = counts.is_count
      ∙ ap (λ z. z *ℤ pos (10 ^ 23)) (ap (int_max (pos 0)) (once counts.number r counts.is_number is_r) ∙ same);
}

same_published : (IsNumber IsOther : ℤ → Type 0) → IsOneCount IsNumber → IsOneCount IsOther → (r s : ℤ) → IsNumber r
    → IsOther s → int_max (pos 0) r ≡ int_max (pos 0) s → (count : ℤ) → IsPublished IsNumber count ↔ IsPublished IsOther count
same_published IsNumber IsOther once other_once r s is_r is_s same count = (
  published_as IsNumber IsOther once r s is_r is_s same count,
  published_as IsOther IsNumber other_once s r is_s is_r (sym same) count,
)

pub same_base_score : (v : Vector) (count : ℤ)
    → IsBaseScore (weights_of v) count ↔ IsBaseScoreBy IsNearestAway (weights_of v) count
same_base_score v =
    let w = weights_of v in
    let alike = base_is_alike v in
    let r = above_least (place (base_number (impact w) (exploitability w))) in
    same_published (IsBaseBy IsRoundedV2 w (impact w)) (IsBaseBy IsNearestAway w (impact w))
    (base_once IsRoundedV2 v2-unique w (impact w) (lit< tt)) (base_once IsNearestAway nearest_away-unique w (impact w) (lit< tt))
    r r alike.by_v2 alike.plain refl

pub same_temporal_score : (v : Vector) (count : ℤ)
    → IsTemporalScore (weights_of v) count ↔ IsTemporalScoreBy IsNearestAway (weights_of v) count
same_temporal_score v =
    let w = weights_of v in
    let base = base_is_alike v in
    let n = place (base_number (impact w) (exploitability w)) in
    let alike = temporal_is_alike v n base.to_ten base.other in
    let r = above_least (place (temporal_from v n)) in
    same_published (IsTemporalBy IsRoundedV2 w (impact w)) (IsTemporalBy IsNearestAway w (impact w))
    (temporal_once IsRoundedV2 v2-unique w (impact w) (lit< tt)) (temporal_once IsNearestAway nearest_away-unique w (impact w) (lit< tt))
    r r (record { base = above_least n; is_base = base.by_v2; is_rounded = alike.by_v2 })
    (record { base = above_least n; is_base = base.plain; is_rounded = alike.plain }) refl

pub same_environmental_score : (v : Vector) (count : ℤ)
    → IsEnvironmentalScore (weights_of v) count ↔ IsEnvironmentalScoreBy IsNearestAway (weights_of v) count
same_environmental_score v =
    let w = weights_of v in
    let base = adjusted_base_is_alike v in
    let n = place (base_number (adjusted_impact w) (exploitability w)) in
    let temporal = temporal_is_alike v n base.to_ten base.other in
    let m = place (temporal_from v n) in
    let x = environmental_from v m in
    same_published (IsEnvironmentalBy IsRoundedV2 w) (IsEnvironmentalBy IsNearestAway w)
    (environmental_once IsRoundedV2 v2-unique w) (environmental_once IsNearestAway nearest_away-unique w)
    (v2_tenths x) (nearest_tenths x)
    (record {
      adjusted_temporal = above_least m;
      is_temporal = record { base = above_least n; is_base = base.by_v2; is_rounded = temporal.by_v2 };
      is_rounded = v2_is x (lit< tt);
    })
    (record {
      adjusted_temporal = above_least m;
      is_temporal = record { base = above_least n; is_base = base.plain; is_rounded = temporal.plain };
      is_rounded = nearest_is x (lit< tt);
    }) (environmental_is_alike v m temporal.to_ten)
