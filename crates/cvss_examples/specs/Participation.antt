-- A caller's own metric, which has the values of User Interaction under other names.
use Rattle.cvss.specs.MetricTypeV3.TheVariants.{UI}
use Rattle.cvss.specs.TableV3.{Value}
use Rattle.cvss_metric.specs.declared.v3.base.access.UserInteraction.TheVariants.{Required, None}
use Rattle.cvss_examples.specs.declared.own_metric.Participation.{Participation}
use Rattle.cvss_examples.specs.declared.own_metric.Participation.TheVariants.{Needed, Unneeded}

-- the value of the table
abbrev pub participation : Participation → Value UI
participation Needed = Required
participation Unneeded = None
