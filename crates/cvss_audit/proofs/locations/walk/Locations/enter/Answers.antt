use Rattle.std.proofs.Common.{ap, refl, ◌∙◌}
use Rattle.std.proofs.lemmas.Result.{on_ok_weaker}
use Rattle.serde_json.proofs.Views.{view-Object}
use Rattle.serde_json.specs.View.{view}
use Rattle.cvss_audit.specs.Locations.{context_view}
use Rattle.cvss_audit.proofs.LocationsLemmas.{Enters-object}
use Rattle.cvss_audit.proofs.locations.walk.Locations.enter.Goals as goal

pub returns-in-Object : goal.returns-in-Object
returns-in-Object c =
    on_ok_weaker c.push-in-Object.result
    (Enters-object c.args.step (context_view c.args.context) (view c.args.value.now) _ _ _ _ _ _ (ap view c.in-Object.is ∙ view-Object c.in-Object.object)
    c.own_context-own.ensures refl c.iter.ensures.rest)
    c.push-in-Object.ensures
