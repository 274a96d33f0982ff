use Rattle.std.proofs.Common.{◌≡◌, ◌++◌, map}
use Rattle.cvss_audit.specs.Objects.{difference_value}
use Rattle.cvss_audit.specs.Differences.{difference_view}
use Rattle.cvss_audit.specs.Trees.{tree_view}
use Rattle.cvss_audit.proofs.written.differs.put_differences.Given as goal

abbrev pub invariant-loop-difference : goal.invariant-loop-difference
invariant-loop-difference l =
    map tree_view l.reported.items ++ map difference_value (map difference_view l.difference-iterator.rest.items)
    ≡ map difference_value (map difference_view l.fn.differences.items)
