use Rattle.std.proofs.Common.{ap, subst}
use Rattle.std.specs.Prelude.{Ok}
use Rattle.cvss_vector.specs.v4.Overriding.{ReportsObjection}
use Rattle.cvss_vector.specs.v4.private.OverridingSteps.{objection_of}
use Rattle.cvss_vector.proofs.v4.OverridingLemmas.{one_overrides, no_objection_held, first_objections_same}
use Rattle.cvss_vector.proofs.v4.vector.Vector.from_overrides.Goals as goal

pub returns-in-Ok-clause-given : goal.returns-in-Ok-clause-given
returns-in-Ok-clause-given c = λ vector are version.
    let read = c.in-Ok.ensures in
    ap Ok (one_overrides _ c.in-Ok.vector vector read.version version read.accepted are)

pub returns-in-Err-clause-given : goal.returns-in-Err-clause-given
returns-in-Err-clause-given c = λ vector are version.
    let is = c.in-Err.ensures.rejected in
    absurd ((no_objection_held _ vector are).none c.in-Err.index _ is.within is.is)

pub returns-in-Err-clause-rejects : goal.returns-in-Err-clause-rejects
returns-in-Err-clause-rejects c = λ place objection is.
    let same = first_objections_same _ c.in-Err.index place (objection_of c.in-Err.fault) objection c.in-Err.ensures.rejected is in
    subst (λ each. ReportsObjection each objection c.reported.result) same.0 (subst (λ each. ReportsObjection c.in-Err.index each c.reported.result) same.1 c.reported.ensures)
