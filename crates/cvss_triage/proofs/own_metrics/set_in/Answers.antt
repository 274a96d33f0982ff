use Rattle.cvss_triage.specs.private.Steps.{own_value}
use Rattle.cvss_triage.proofs.OwnLemmas.{own_kept, own_set}
use Rattle.cvss_triage.proofs.own_metrics.set_in.Goals as goal

pub returns-in_default-clause-set : goal.returns-in_default-clause-set
returns-in_default-clause-set g c = λ before are.
    let version = g.V.Components.version in
    own_kept version c.args.family before c.args.it (own_value version c.args.own.now) c.in_default.ensures are

pub returns-clause-set : goal.returns-clause-set
returns-clause-set g c = λ before are.
    let version = g.V.Components.version in
    let old = own_value version c.args.own.now in
    own_set version c.args.family g.met.V.Components.version_laws before c.args.it c.in-Some.given c.in-Some.ensures old (λ kind. version.value_of c.after.result kind) c.after.ensures are
