use Rattle.std.proofs.Common.{◌≡◌, ◌++◌, drop, map}
use Rattle.std.specs.List.{filter_map}
use Rattle.cvss_audit.specs.Objects.{missing_at, missing_v3}
use Rattle.cvss_audit.proofs.written.missing.missing_v3.Given as goal

abbrev pub invariant-loop-kind : goal.invariant-loop-kind
invariant-loop-kind l =
    map (λ name. name.now) l.missing.items ++ filter_map (missing_at l.vector) (drop l.kind-index l.kind-items) ≡ missing_v3 l.vector
