use Rattle.std.specs.Int.{w64}
use Rattle.std.proofs.Common.{arith, lit<, rules}
use Rattle.std.proofs.lemmas.Int.{ints, to_z-of_z}
use Rattle.cvss_score.specs.v2.Scores.{IsBase, base_number, exploitability, f, impact}
use Rattle.cvss_explain.proofs.StepLemmas.{near_step, published_step}
use Rattle.cvss_explain.proofs.v2.steps.base_steps.Goals as goal

pub returns : goal.returns
returns c =
    let w = c.args.weights.now in
    let raised = simp (to_z-of_z w64 c.args.base (search rules)) at c.raised_to_zero.ensures.value in (
      near_step (impact w) c.impact.result _ (omega (arith, ints, c.impact.ensures.limit)) (lit< tt) c.impact.ensures.value c.nearest.ensures,
      (
        near_step (exploitability w) c.exploitability.result _ (omega (arith, ints, c.exploitability.ensures.limit)) (lit< tt) c.exploitability.ensures.value c.nearest-2.ensures,
        (
          near_step (f (impact w)) c.factor.result _ (omega (arith, ints, c.factor.ensures.limit)) (lit< tt) c.factor.ensures.value c.nearest-3.ensures,
          (
            near_step (base_number (impact w) (exploitability w)) c.base_number.result _ (omega (arith, ints, c.base_number.ensures.limit)) (lit< tt) c.base_number.ensures.value c.nearest-4.ensures,
            (published_step (IsBase w (impact w)) c.args.base c.raised_to_zero.result _ (omega (arith, c.raised_to_zero.ensures.to_ten)) raised c.requires.base c.rated.ensures, tt),
          ),
        ),
      ),
    )
