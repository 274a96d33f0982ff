use Rattle.std.proofs.Common.{◌≡◌, ◌++◌, drop, string_bytes}
use Rattle.cvss_audit.specs.private.Walking.{pointer_to}
use Rattle.cvss_audit.proofs.locations.walk.pointer.Given as goal

abbrev pub invariant-loop-level : goal.invariant-loop-level
invariant-loop-level l = string_bytes l.text ++ pointer_to (drop l.level-index l.levels) ≡ pointer_to l.levels
