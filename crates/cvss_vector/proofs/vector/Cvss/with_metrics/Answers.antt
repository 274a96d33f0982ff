use Rattle.cvss_vector.proofs.SettingLemmas.{scored_with}
use Rattle.cvss_vector.specs.declared.vector.Cvss.TheVariants.{CvssV20, CvssV30, CvssV31, CvssV40}
use Rattle.cvss_vector.proofs.vector.Cvss.with_metrics.Goals as goal

pub returns-in-CvssV20 : goal.returns-in-CvssV20
returns-in-CvssV20 c =
    let is = c.with_version.ensures in
    rw c.in-CvssV20.is (record { accepted = is.accepted; accepts = is.accepts; scored = scored_with (CvssV20 c.in-CvssV20.vector) c.args.metrics.now _ is.accepted; rejected = is.rejected; rejects = is.rejects; bound = is.bound })

pub returns-in-CvssV30 : goal.returns-in-CvssV30
returns-in-CvssV30 c =
    let is = c.with_version-in-CvssV30.ensures in
    rw c.in-CvssV30.is (record { accepted = is.accepted; accepts = is.accepts; scored = scored_with (CvssV30 c.in-CvssV30.vector) c.args.metrics.now _ is.accepted; rejected = is.rejected; rejects = is.rejects; bound = is.bound })

pub returns-in-CvssV31 : goal.returns-in-CvssV31
returns-in-CvssV31 c =
    let is = c.with_version-in-CvssV31.ensures in
    rw c.in-CvssV31.is (record { accepted = is.accepted; accepts = is.accepts; scored = scored_with (CvssV31 c.in-CvssV31.vector) c.args.metrics.now _ is.accepted; rejected = is.rejected; rejects = is.rejects; bound = is.bound })

pub returns-in-CvssV40 : goal.returns-in-CvssV40
returns-in-CvssV40 c =
    let is = c.with_version-in-CvssV40.ensures in
    rw c.in-CvssV40.is (record { accepted = is.accepted; accepts = is.accepts; scored = scored_with (CvssV40 c.in-CvssV40.vector) c.args.metrics.now _ is.accepted; rejected = is.rejected; rejects = is.rejects; bound = is.bound })
