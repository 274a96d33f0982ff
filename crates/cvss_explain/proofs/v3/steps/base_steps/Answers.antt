use Rattle.std.proofs.Common.{arith, lit<, rules}
use Rattle.std.proofs.lemmas.Int.{ints}
use Rattle.cvss_score.proofs.v3_lemmas.EqualLemmas.{base_bottom}
use Rattle.cvss_score.specs.v3.Scores.{IsBaseScore, base_number, exploitability, impact, iss}
use Rattle.cvss_explain.proofs.CloseLemmas.{impact_bottom}
use Rattle.cvss_explain.proofs.StepLemmas.{near_by_step, near_step, near_units_step, score_step}
use Rattle.cvss_explain.specs.declared.step.Amount.TheVariants.{Rated}
use Rattle.cvss_vector.specs.declared.published.Bounds.TheVariants.{SinceV3}
use Rattle.cvss_explain.proofs.v3.steps.base_steps.Goals as goal

pub returns : goal.returns
returns c =
    let w = c.args.weights.now in (
      near_step (iss w) c.iss.result _ (omega (arith, ints, c.iss.ensures.limit)) (lit< tt) c.iss.ensures.value c.nearest.ensures,
      (
        near_by_step _ (impact w) c.impact.result _ (omega (arith, ints, c.impact.ensures.limit)) (impact_bottom w) c.impact.ensures.near c.nearest-2.ensures,
        (
          near_step (exploitability w) c.exploitability.result _ (omega (arith, ints, c.exploitability.ensures.limit)) (lit< tt) c.exploitability.ensures.value c.nearest-3.ensures,
          (
            near_units_step _ (base_number w) c.base_units.result _ (omega (arith, c.base_units.ensures.to_ten)) (base_bottom w) (c.base_units.ensures.value 0).near c.nearest_units.ensures,
            (score_step (Rated SinceV3) (IsBaseScore c.args.minor w) c.args.base _ (omega arith) (search (rules, c.requires.base)) c.rated.ensures, tt),
          ),
        ),
      ),
    )
