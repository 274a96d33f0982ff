use Rattle.std.proofs.Common.{None, Some, refl, ◌∙◌}
use Rattle.cvss_triage.specs.private.Steps.{own_value}
use Rattle.cvss_triage.proofs.OwnLemmas.{has_own}
use Rattle.cvss_triage.proofs.own_metrics.with_own.Goals as goal

pub returns-in-Some-clause-own : goal.returns-in-Some-clause-own
returns-in-Some-clause-own g c =
    let version = g.V.Components.version in
    let same_front = rw c.in-Some.is at c.requires in
    rw c.in-Some.is
    (λ family overrides are. has_own version family overrides (own_value version (Some c.in-Some.own)) c.args.vector _ are c.completed.ensures.values (c.completed.ensures.front ∙ same_front))

pub returns-in-None-clause-own : goal.returns-in-None-clause-own
returns-in-None-clause-own g c =
    let version = g.V.Components.version in
    rw c.in-None.is
    (λ family overrides are. has_own version family overrides (own_value version None) c.args.vector c.args.vector are (λ kind. refl) refl)
