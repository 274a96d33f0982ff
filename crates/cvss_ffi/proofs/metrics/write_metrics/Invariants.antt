use Rattle.std.proofs.Common.{◌≡◌, ◌≤◌, length, take}
use Rattle.cvss_base.specs.V4Types.{most_metrics}
use Rattle.cvss_ffi.specs.Metrics.{metrics_at}
use Rattle.cvss_ffi.proofs.metrics.write_metrics.Given as goal

abbrev pub invariant-loop-kind : goal.invariant-loop-kind
invariant-loop-kind g l =
    (take l.count l.own ≡ metrics_at g.V.Components.version l.vector (take l.kind-index l.kind-items))
    × (l.count ≤ l.kind-index) × (length l.own ≡ most_metrics)
