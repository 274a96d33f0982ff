use Rattle.std.proofs.Common.{length}
use Rattle.cvss_json.proofs.page.Page.+places.Given as goal

abbrev pub decreases-places : goal.decreases-places
decreases-places l = length l.units.now
