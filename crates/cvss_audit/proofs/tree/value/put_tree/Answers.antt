use Rattle.std.proofs.Common.{◌≡◌, string_bytes, ap, ◌∙◌, rules}
use Rattle.serde_json.specs.Data.{put}
use Rattle.cvss_audit.specs.Trees.{members_view, tree_view}
use Rattle.cvss_audit.proofs.TreesLemmas.{members_view-insert_entry}
use Rattle.cvss_audit.proofs.tree.value.put_tree.Goals as goal

pub returns-clause-ok : goal.returns-clause-ok
returns-clause-ok c =
    let old = c.args.members.now.entries in
    let copied : string_bytes c.in_ok-name.name ≡ c.args.name.now = search rules in
    ap members_view c.in_ok-insert.ensures.entries
    ∙ members_view-insert_entry old c.in_ok-name.name c.args.value
    ∙ ap (λ name. put name (tree_view c.args.value) (members_view old)) copied
