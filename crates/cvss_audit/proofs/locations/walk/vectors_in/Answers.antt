use Rattle.std.proofs.Common.{refl}
use Rattle.serde_json.specs.View.{view}
use Rattle.cvss_audit.proofs.LocationsLemmas.{locations_of_document}
use Rattle.cvss_audit.proofs.locations.walk.vectors_in.Goals as goal

pub returns : goal.returns
returns c =
    locations_of_document (view c.args.document.now) _ c.new.result.items c.enter.new.self.levels.items c.new.ensures.items refl c.in_ok-enter.ensures
