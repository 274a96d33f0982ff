use Rattle.std.proofs.Common.{◌≡◌}
use Rattle.cvss_audit.specs.LocationsLeft.{locations_left}
use Rattle.cvss_audit.specs.private.Walking.{steps_left}
use Rattle.cvss_audit.proofs.locations.walk.Locations.next_location.Given as goal

abbrev pub invariant-loop-level : goal.invariant-loop-level
invariant-loop-level l = locations_left l.fn.self ≡ locations_left l.self

abbrev pub decreases-loop-level : goal.decreases-loop-level
decreases-loop-level l = steps_left l.self.levels.items
