use Rattle.std.proofs.Common.{subst}
use Rattle.cvss_triage.proofs.PickingLemmas.{highest_kept, highest_next}
use Rattle.cvss_triage.specs.private.Picking.{IsBest}
use Rattle.cvss_triage.proofs.preferring.higher.Goals as goal

pub returns-in-Some-clause-highest : goal.returns-in-Some-clause-highest
returns-in-Some-clause-highest c = λ overrides scoring allow_incomplete vectors is scores.
    let best = c.in-Some.best in
    let next = c.args.next in
    highest_kept overrides scoring allow_incomplete vectors next.cvss next.tenths scores best.cvss best.tenths
    (subst (IsBest overrides scoring allow_incomplete vectors) c.in-Some.is is) c.if-best-next.true

pub returns-in_default-clause-highest : goal.returns-in_default-clause-highest
returns-in_default-clause-highest c = λ overrides scoring allow_incomplete vectors is scores.
    let best = c.in-Some.best in
    let next = c.args.next in
    highest_next overrides scoring allow_incomplete vectors next.cvss next.tenths scores best.cvss best.tenths
    (subst (IsBest overrides scoring allow_incomplete vectors) c.in-Some.is is) c.if-best-next.false
