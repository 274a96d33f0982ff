use Rattle.std.specs.Int.{w64}
use Rattle.std.proofs.Common.{ℤ, ◌*ℤ◌, arith, lit<, pos, refl, rules}
use Rattle.std.proofs.lemmas.Int.{ints, to_z-of_z}
use Rattle.cvss_base.specs.Exact.{Exact, tenths, thousandths}
use Rattle.cvss_score.specs.v2.Scores.{IsBase, IsEnvironmental, IsTemporal, adjusted_impact, environmental_number}
use Rattle.cvss_explain.proofs.NearLemmas.{near_itself}
use Rattle.cvss_explain.proofs.StepLemmas.{exact_step, near_of_step, near_step, published_step}
use Rattle.cvss_explain.specs.Near.{IsNear, IsTenth}
use Rattle.cvss_explain.proofs.v2.steps.environmental_steps.Goals as goal

pub returns : goal.returns
returns c =
    let w = c.args.weights.now in
    let base = c.args.base in
    let temporal = c.args.temporal in
    let score = c.environmental-score.result in
    let number = c.environmental_number.result in
    let scale = c.environmental_number.ensures.on_scale in
    let of_temporal : ℤ → Exact = λ temporal. environmental_number (tenths temporal) (thousandths w.cdp) (thousandths w.td) in
    let value = simp (to_z-of_z w64 temporal (search rules)) at c.environmental_number.ensures.value in
    let raised = simp (to_z-of_z w64 score (search rules)) at c.raised_to_zero.ensures.value in (
      near_step (adjusted_impact w) c.adjusted_impact.result _ (omega (arith, ints, c.adjusted_impact.ensures.bound.from_zero, c.adjusted_impact.ensures.bound.to_highest)) (lit< tt) c.adjusted_impact.ensures.value c.nearest.ensures,
      (
        exact_step (IsTenth (IsBase w (adjusted_impact w))) (base *ℤ pos 1_000_000) _ (omega (arith, ints, c.requires.base_scale.low, c.requires.base_scale.high)) (record { tenths = base; is_number = c.requires.base; is = refl }) c.tenths.ensures,
        (
          exact_step (IsTenth (IsTemporal w (adjusted_impact w))) (temporal *ℤ pos 1_000_000) _ (omega (arith, ints, c.requires.temporal_scale.low, c.requires.temporal_scale.high)) (record { tenths = temporal; is_number = c.requires.temporal; is = refl }) c.tenths-2.ensures,
          (
            near_of_step of_temporal temporal c.requires.temporal
                (exact_step (IsNear (of_temporal temporal)) number _ (omega (arith, ints, scale.low, scale.high)) (near_itself (of_temporal temporal) number (lit< tt) value) c.exact.ensures),
            (published_step (IsEnvironmental w) score c.raised_to_zero.result _ (omega (arith, c.raised_to_zero.ensures.to_ten)) raised c.environmental-score.ensures.value c.rated.ensures, tt),
          ),
        ),
      ),
    )
