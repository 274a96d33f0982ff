use Rattle.std.proofs.Common.{◌≡◌, true, false, refl, arith}
use Rattle.cvss_score.specs.v4.Scores.{has_impact}
use Rattle.cvss_score.proofs.v4_lemmas.ScoreLemmas.{number_less_mean, number_without_impact}
use Rattle.cvss_score.proofs.v4.scoring.explanation.Explanation.of.Goals as goal

pub returns-then-not-has_impact-clause-explanation : goal.returns-then-not-has_impact-clause-explanation
returns-then-not-has_impact-clause-explanation c =
    let v = c.args.effective.now in
    let none : has_impact v ≡ false = grind arith in
    let values = c.of-values.result in
    let listed = rw c.of-values.ensures at values.listed in
    record {
      effective = refl;
      class = rw c.of-values.ensures at values.of_effective;
      value = rw listed.is_value refl;
      groups = none;
      mean = rw none (record { equal = refl });
      number = rw (number_without_impact v none) (record { equal = refl });
    }

pub returns-clause-explanation : goal.returns-clause-explanation
returns-clause-explanation c =
    let v = c.args.effective.now in
    let impact : has_impact v ≡ true = grind arith in
    let values = c.of-values.result in
    let listed = rw c.of-values.ensures at values.listed in
    let is_mean = rw c.of-values.ensures at c.mean_taken-mean.ensures.value in
    let left = number_less_mean v values.value c.mean_taken-mean.result impact listed is_mean c.mean_taken-mean.ensures.bound in
    record {
      effective = refl;
      class = rw c.of-values.ensures at values.of_effective;
      value = rw listed.is_value refl;
      groups = (impact, rw c.of-values.ensures at c.of.ensures.value);
      mean = rw impact is_mean;
      number = rw c.less_mean.ensures.value left;
    }
