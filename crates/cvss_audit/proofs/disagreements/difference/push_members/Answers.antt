use Rattle.std.proofs.Common.{◌∷◌, ◌++◌, map, sym, ap, ◌∙◌}
use Rattle.std.specs.List.{filter_map}
use Rattle.serde_json.specs.View.{members_view, view}
use Rattle.cvss_audit.specs.Differences.{difference_at, difference_view, list_of}
use Rattle.cvss_audit.proofs.AddedLemmas.{added}
use Rattle.cvss_audit.proofs.disagreements.difference.push_members.Goals as goal

pub loop-name-preserved : goal.loop-name-preserved
loop-name-preserved c =
    let differences = filter_map (difference_at c.args.vector.cvss.now c.args.vector.scores) in
    let before = map difference_view c.loop-name.found.items in
    let rest = list_of (members_view c.next.new.self) in
    let next = ap (λ entries. list_of (members_view entries)) c.in-Some.ensures.steps
    ∙ ap (λ name. (name, view c.in-Some.said.now) ∷ rest) (sym c.as_str.ensures.value) in
    ap (λ all. all ++ differences rest) c.in_ok-push_member.ensures ∙ added _ before (differences rest)
    ∙ ap (λ members. before ++ differences members) (sym next) ∙ c.loop-name.invariant
