use Rattle.std.proofs.Common.{◌≡◌, ◌++◌, map}
use Rattle.cvss_audit.specs.Trees.{tree_view}
use Rattle.serde_json.specs.Data.{string}
use Rattle.cvss_audit.proofs.written.missing.trees_of.Given as goal

abbrev pub invariant-loop-name : goal.invariant-loop-name
invariant-loop-name l =
    map tree_view l.trees.items ++ map string (map (λ name. name.now) l.name-iterator.rest.items)
    ≡ map string (map (λ name. name.now) l.fn.names.items)
