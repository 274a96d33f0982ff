use Rattle.std.proofs.Common.{◌≡◌, ◌++◌, map}
use Rattle.std.specs.List.{filter_map}
use Rattle.cvss_audit.specs.Differences.{difference_at, difference_view, list_of}
use Rattle.serde_json.specs.View.{members_view}
use Rattle.cvss_audit.proofs.disagreements.difference.push_members.Given as goal

abbrev pub invariant-loop-name : goal.invariant-loop-name
invariant-loop-name l =
    map difference_view l.found.items ++ filter_map (difference_at l.vector.cvss.now l.vector.scores) (list_of (members_view l.name-iterator))
    ≡ map difference_view l.fn.found.items ++ filter_map (difference_at l.vector.cvss.now l.vector.scores) (list_of (members_view l.object.entries))
