use Rattle.cvss_text.specs.private.Walk.{reason_of}
use Rattle.cvss_triage.proofs.OwnLemmas.{wrong_not}
use Rattle.cvss_triage.proofs.own_metrics.given_in.Goals as goal

pub returns-in-Err : goal.returns-in-Err
returns-in-Err g c =
    let version = g.V.Components.version in
    wrong_not version c.args.family g.met.V.Components.version_laws c.args.it _ c.in-Err.field-0.0 (reason_of version c.in-Err.field-0.1) c.components_of.ensures c.in-Err.ensures.rejected
