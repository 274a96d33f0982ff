use Rattle.std.specs.Int.{w64}
use Rattle.std.proofs.Common.{ℤ, arith, lit<, rules}
use Rattle.std.proofs.lemmas.Int.{ints, to_z-of_z}
use Rattle.cvss_base.specs.Exact.{Exact, tenths, thousandths}
use Rattle.cvss_score.specs.v2.Scores.{IsTemporal, impact, temporal_number}
use Rattle.cvss_explain.proofs.StepLemmas.{near_of_step, near_step, published_step}
use Rattle.cvss_explain.proofs.v2.steps.temporal_steps.Goals as goal

pub returns : goal.returns
returns c =
    let w = c.args.weights.now in
    let score = c.temporal-score.result in
    let of_base : ℤ → Exact = λ base. temporal_number (tenths base) (thousandths w.e) (thousandths w.rl) (thousandths w.rc) in
    let value = simp (to_z-of_z w64 c.args.base (search rules)) at c.temporal_number.ensures.value in
    let raised = simp (to_z-of_z w64 score (search rules)) at c.raised_to_zero.ensures.value in (
      near_of_step of_base c.args.base c.requires.base
          (near_step (of_base c.args.base) c.temporal_number.result _ (omega (arith, ints, c.temporal_number.ensures.limit)) (lit< tt) value c.nearest.ensures),
      (published_step (IsTemporal w (impact w)) score c.raised_to_zero.result _ (omega (arith, c.raised_to_zero.ensures.to_ten)) raised c.temporal-score.ensures.value c.rated.ensures, tt),
    )
