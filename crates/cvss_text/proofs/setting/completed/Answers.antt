use Rattle.cvss_text.proofs.SettingLemmas.{IsCompletedTo-all, IsCompletedTo-more, IsCompletedTo-start}
use Rattle.cvss_text.proofs.setting.completed.Goals as goal

pub loop-kind-init : goal.loop-kind-init
loop-kind-init g c = IsCompletedTo-start g.V.Components.version g.met.V.Components.version_laws _ c.args.given

pub loop-kind-preserved : goal.loop-kind-preserved
loop-kind-preserved g c =
    IsCompletedTo-more g.V.Components.version g.met.V.Components.version_laws _ c.args.given c.loop-kind.kind-index c.kind-item.result _ c.printed-kind-items.ensures c.loop-kind-test.true c.kind-item.is c.loop-kind.vector _ c.copy_value.ensures c.loop-kind.invariant

pub returns-clause-values : goal.returns-clause-values
returns-clause-values g c =
    IsCompletedTo-all g.V.Components.version g.met.V.Components.version_laws _ c.args.given c.loop-kind.kind-index _ c.loop-kind.vector c.printed-kind-items.ensures c.loop-kind-test.false c.loop-kind.invariant
