use Rattle.std.proofs.Common.{◌≡◌, ◌++◌, flat_map, take}
use Rattle.cvss_lines.specs.Answers.{written_text}
use Rattle.cvss_lists.specs.Differences.{change_at}
use Rattle.cvss_lists.proofs.comparing.write_changes.Given as goal

abbrev pub invariant-loop-kind : goal.invariant-loop-kind
invariant-loop-kind g l =
    l.answers.bytes.items ≡ l.fn.answers.bytes.items
    ++ flat_map (λ kind. flat_map written_text (change_at g.V.Components.version l.before l.after kind)) (take l.kind-index l.kind-items)
