use Rattle.std.proofs.Common.{ℤ, arith, lit<, pos, rules}
use Rattle.std.proofs.lemmas.Int.{ints}
use Rattle.cvss_base.specs.Exact.{Exact}
use Rattle.cvss_base.specs.Tenths.{IsInTenths}
use Rattle.cvss_score.proofs.v3_lemmas.EqualLemmas.{environmental_bottom}
use Rattle.cvss_score.specs.v3.Scores.{IsEnvironmentalScore, environmental_number, miss, modified_exploitability, modified_impact, temporal_number}
use Rattle.cvss_explain.proofs.CloseLemmas.{modified_impact_bottom}
use Rattle.cvss_explain.proofs.NearLemmas.{near_itself}
use Rattle.cvss_explain.proofs.StepLemmas.{exact_step, near_by_step, near_of_step, near_step, near_units_step, score_step}
use Rattle.cvss_explain.specs.Near.{IsNear}
use Rattle.cvss_explain.specs.V3.{IsFirst}
use Rattle.cvss_explain.specs.declared.step.Amount.TheVariants.{Rated, Score}
use Rattle.cvss_vector.specs.declared.published.Bounds.TheVariants.{SinceV3}
use Rattle.cvss_explain.proofs.v3.steps.environmental_steps.Goals as goal

pub returns : goal.returns
returns c =
    let w = c.args.weights.now in
    let minor = c.args.minor in
    let units = c.temporal_units.result in
    let of_tenths : ℤ → Exact = λ tenths. temporal_number tenths w in
    let near = near_itself (of_tenths (pos c.args.first)) (pos units) (lit< tt) c.temporal_units.ensures.value in (
      near_step (miss w) c.miss.result _ (omega (arith, ints, c.miss.ensures.limit)) (lit< tt) c.miss.ensures.value c.nearest.ensures,
      (
        near_by_step _ (modified_impact minor w) c.modified_impact.result _ (omega (arith, ints, c.modified_impact.ensures.limit)) (modified_impact_bottom minor w) c.modified_impact.ensures.near c.nearest-2.ensures,
        (
          near_step (modified_exploitability w) c.modified_exploitability.result _ (omega (arith, ints, c.modified_exploitability.ensures.limit)) (lit< tt) c.modified_exploitability.ensures.value c.nearest-3.ensures,
          (
            near_units_step _ (environmental_number minor w) c.environmental_units.result _ (omega (arith, c.environmental_units.ensures.to_ten)) (environmental_bottom minor w) (c.environmental_units.ensures.value 0).near c.nearest_units.ensures,
            (
              score_step Score (IsInTenths (IsFirst minor w)) c.args.first _ (omega arith) (search (rules, c.requires.first)) c.score.ensures,
              (
                near_of_step of_tenths (pos c.args.first) c.requires.first
                    (exact_step (IsNear (of_tenths (pos c.args.first))) (pos units) _ (omega (arith, ints, c.temporal_units.ensures.to_ten)) near c.exact.ensures),
                (score_step (Rated SinceV3) (IsEnvironmentalScore minor w) c.times_temporal.result _ (omega (arith, c.times_temporal.ensures.to_ten)) (search (rules, c.requires.first, c.times_temporal.ensures.value)) c.rated.ensures, tt),
              ),
            ),
          ),
        ),
      ),
    )
