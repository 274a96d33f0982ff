use Rattle.std.proofs.Common.{◌≡◌, ◌-◌, length}
use Rattle.cvss_text.specs.Listing.{metrics_left}
use Rattle.cvss_text.proofs.metrics.MetricsIterator.next.Given as goal

abbrev pub invariant-loop-kind : goal.invariant-loop-kind
invariant-loop-kind g l =
    metrics_left g.V.Components.version g.V.Listed.order l.fn.self ≡ metrics_left g.V.Components.version g.V.Listed.order l.self

abbrev pub decreases-loop-kind : goal.decreases-loop-kind
decreases-loop-kind g l = length g.V.Listed.order - l.self.place
