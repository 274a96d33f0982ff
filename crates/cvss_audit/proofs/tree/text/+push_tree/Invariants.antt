use Rattle.std.proofs.Common.{◌≡◌, ℕ, List, ◌++◌, drop}
use Rattle.serde_json.specs.Data.{array, object}
use Rattle.cvss_audit.specs.Trees.{members_view, trees_view}
use Rattle.cvss_audit.specs.private.Pushes.{PushesText}
use Rattle.cvss_audit.proofs.PartsLemmas.{IsItemsText, IsMembersText}
use Rattle.cvss_audit.proofs.TreesLemmas.{Entry}
use Rattle.cvss_audit.proofs.tree.text.+push_tree.Given as goal

-- the text of what is left makes what has been written the text of the whole
abbrev pub invariant-push_items-loop-item : goal.invariant-push_items-loop-item
invariant-push_items-loop-item l =
    (rest : List ℕ) → IsItemsText l.later (trees_view (drop l.item-index l.item-items)) rest
    → PushesText (array (trees_view l.item-items)) l.fn.answers.bytes.items (l.answers.bytes.items ++ rest)

abbrev pub invariant-push_members-loop-name : goal.invariant-push_members-loop-name
invariant-push_members-loop-name l = record {
  done : List Entry;
  split : l.members.entries ≡ done ++ l.name-iterator;
  ends : (rest : List ℕ) → IsMembersText l.later (members_view l.members.entries) (members_view done) (members_view l.name-iterator) rest
      → PushesText (object (members_view l.members.entries)) l.fn.answers.bytes.items (l.answers.bytes.items ++ rest);
}
