use Rattle.cvss_metric.specs.declared.v3.environmental.modified.Modified.TheVariants.{NotDefined, Modified}
use Rattle.cvss_metric.specs.v3.private.ModifiedLaws.{spelled, weight}
use Rattle.cvss_metric.proofs.v3.environmental.modified.ModifiedMetricValue.row.Goals as goal

pub returns-in-NotDefined-clause-spelling : goal.returns-in-NotDefined-clause-spelling
returns-in-NotDefined-clause-spelling g c = rw (c.in-NotDefined.is, spelled g.met.T.BaseValue.base_law NotDefined)

pub returns-in-NotDefined-clause-weight : goal.returns-in-NotDefined-clause-weight
returns-in-NotDefined-clause-weight g c = rw c.in-NotDefined.is (weight g.met.T.BaseValue.base_law NotDefined)

pub returns-in-Modified-clause-spelling : goal.returns-in-Modified-clause-spelling
returns-in-Modified-clause-spelling g c =
    let value = c.in-Modified.value in
    rw (c.in-Modified.is, spelled g.met.T.BaseValue.base_law (Modified value)) c.spelling.ensures

pub returns-in-Modified-clause-weight : goal.returns-in-Modified-clause-weight
returns-in-Modified-clause-weight g c = rw c.in-Modified.is (weight g.met.T.BaseValue.base_law (Modified c.in-Modified.value))
