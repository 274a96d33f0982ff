use Rattle.std.proofs.Common.{ℤ, arith, lit<, pos, rules}
use Rattle.std.proofs.lemmas.Int.{ints}
use Rattle.cvss_base.specs.Exact.{Exact}
use Rattle.cvss_score.specs.v3.Scores.{IsTemporalScore, temporal_number}
use Rattle.cvss_explain.proofs.NearLemmas.{near_itself}
use Rattle.cvss_explain.proofs.StepLemmas.{exact_step, near_of_step, score_step}
use Rattle.cvss_explain.specs.Near.{IsNear}
use Rattle.cvss_explain.specs.declared.step.Amount.TheVariants.{Rated}
use Rattle.cvss_vector.specs.declared.published.Bounds.TheVariants.{SinceV3}
use Rattle.cvss_explain.proofs.v3.steps.temporal_steps.Goals as goal

pub returns : goal.returns
returns c =
    let w = c.args.weights.now in
    let minor = c.args.minor in
    let units = c.temporal_units.result in
    let of_tenths : ℤ → Exact = λ tenths. temporal_number tenths w in
    let near = near_itself (of_tenths (pos c.args.base)) (pos units) (lit< tt) c.temporal_units.ensures.value in (
      near_of_step of_tenths (pos c.args.base) c.requires.base
          (exact_step (IsNear (of_tenths (pos c.args.base))) (pos units) _ (omega (arith, ints, c.temporal_units.ensures.to_ten)) near c.exact.ensures),
      (score_step (Rated SinceV3) (IsTemporalScore minor w) c.times_temporal.result _ (omega (arith, c.times_temporal.ensures.to_ten)) (search (rules, c.requires.base, c.times_temporal.ensures.value)) c.rated.ensures, tt),
    )
