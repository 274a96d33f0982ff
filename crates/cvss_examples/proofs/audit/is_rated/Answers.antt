use Rattle.std.proofs.Common.{◌≤◌, ◌≡◌, ap, rules, subst, sym, ◌∙◌}
use Rattle.std.specs.Int.{w128}
use Rattle.std.proofs.lemmas.Int.{to_z-of_z}
use Rattle.cvss.specs.Answers.{severity_by}
use Rattle.cvss_examples.specs.Findings.{rank}
use Rattle.cvss_examples.proofs.audit.is_rated.Goals as goal

pub returns : goal.returns
returns c =
    let cvss = c.args.cvss.now in
    let score = c.score.result in
    let once = c.scores_are_unique.ensures cvss in
    let rated : c.severity_of.result ≡ severity_by cvss score = c.severity_of.ensures ∙ ap (severity_by cvss) (to_z-of_z w128 score (search rules)) in (
      λ is_true. record {
        score = score;
        scored = c.score.ensures.value;
        rated = subst (λ severity. rank c.args.level ≤ rank severity) rated (c.is_at_least.ensures.0 is_true);
      },
      λ is. c.is_at_least.ensures.1 (
          subst (λ severity. rank c.args.level ≤ rank severity)
          (sym (rated ∙ ap (severity_by cvss) (once score is.score c.score.ensures.value is.scored)))
          is.rated),
    )
