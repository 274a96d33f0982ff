use Rattle.cvss_vector.specs.declared.vector.Cvss.TheVariants.{CvssV20, CvssV30, CvssV31, CvssV40}
use Rattle.cvss_vector.specs.v2.Vector.{v2}
use Rattle.cvss_vector.specs.v3.Vector.{v3}
use Rattle.cvss_vector.specs.v4.Vector.{v4}
use Rattle.cvss_triage.specs.Overrides.{HasOwn}
use Rattle.cvss_triage.specs.declared.overrides.Family.TheVariants.{V2, V3, V4}
use Rattle.cvss_triage.proofs.OwnLemmas.{in_any}
use Rattle.cvss_triage.proofs.own_metrics.OwnMetrics.in_vector.Goals as goal

pub returns-in-CvssV20-clause-own : goal.returns-in-CvssV20-clause-own
returns-in-CvssV20-clause-own c =
    rw c.in-CvssV20.is
    (λ overrides are. in_any CvssV20 (HasOwn v2 V2 overrides c.in-CvssV20.vector) c.with_own.result (c.with_own.ensures.own V2 overrides are.in_v2))

pub returns-in-CvssV30-clause-own : goal.returns-in-CvssV30-clause-own
returns-in-CvssV30-clause-own c =
    rw c.in-CvssV30.is
    (λ overrides are. in_any CvssV30 (HasOwn v3 V3 overrides c.in-CvssV30.vector) c.in_v3.result (c.in_v3.ensures overrides are.in_v3))

pub returns-in-CvssV31-clause-own : goal.returns-in-CvssV31-clause-own
returns-in-CvssV31-clause-own c =
    rw c.in-CvssV31.is
    (λ overrides are. in_any CvssV31 (HasOwn v3 V3 overrides c.in-CvssV31.vector) c.in_v3-in-CvssV31.result (c.in_v3-in-CvssV31.ensures overrides are.in_v3))

pub returns-in-CvssV40-clause-own : goal.returns-in-CvssV40-clause-own
returns-in-CvssV40-clause-own c =
    rw c.in-CvssV40.is
    (λ overrides are. in_any CvssV40 (HasOwn v4 V4 overrides c.in-CvssV40.vector) c.in_v4.result (c.in_v4.ensures.own overrides are.in_v4))
