use Rattle.std.proofs.Common.{◌≡◌, ◌+◌, false, [], ◌∷◌, ◌++◌, drop, string_bytes, sym, ap, ◌∙◌, subst, arith, rules, append_assoc, append-nil}
use Rattle.std.proofs.lemmas.List.{drop_all, drop_more}
use Rattle.std.proofs.lemmas.Result.{on_ok_weaker}
use Rattle.std.specs.List.Sorted.{IsStrictlySortedBy}
use Rattle.std.specs.Map.{keys_of}
use Rattle.std.specs.String.{string_cmp}
use Rattle.json.specs.Print.{quoted}
use Rattle.serde_json.specs.Data.{array, object}
use Rattle.serde_json.specs.Written.{comma_if}
use Rattle.cvss_audit.specs.private.Pushes.{PushesText}
use Rattle.cvss_audit.specs.Trees.{members_view, tree_view, trees_view}
use Rattle.cvss_audit.proofs.PartsLemmas.{IsItemsText-end, IsItemsText-more, IsMembersText, IsMembersText-end, IsMembersText-more, IsTextOf-array, IsTextOf-object, more, opened}
use Rattle.cvss_audit.proofs.TreesLemmas.{Entry, put_last}
use Rattle.cvss_audit.proofs.tree.text.+push_tree.Goals as goal

pub push_items-loop-item-init : goal.push_items-loop-item-init
push_items-loop-item-init n c =
    let values = trees_view c.deref-item-items.result.now in
    λ rest is. opened (array values) 91 rest _ _ c.in_ok-push.ensures (IsTextOf-array values rest is)

pub push_items-loop-item-preserved : goal.push_items-loop-item-preserved
push_items-loop-item-preserved n c =
    let l = c.loop-item in
    let xs = c.deref-item-items.result.now in
    let x = c.item-item.result in
    let here : drop l.item-index xs ≡ x ∷ drop (l.item-index + 1) xs = drop_more xs l.item-index x (omega arith) ∙ ap (λ y. y ∷ drop (l.item-index + 1) xs) (sym c.item-item.is) in
    let left = trees_view (drop (l.item-index + 1) xs) in
    let pushed = c.in_ok-push_tree.ensures in
    λ rest is.
    more (array (trees_view xs)) c.args.answers.now.bytes.items l.answers.bytes.items (comma_if l.later) rest c.in_ok-push_comma.ensures pushed
    (l.invariant (comma_if l.later ++ (pushed.text ++ rest)) (rw here (IsItemsText-more l.later (tree_view x) left pushed.text rest pushed.is_text is)))

pub push_items-returns : goal.push_items-returns
push_items-returns n c =
    let l = c.loop-item in
    let xs = c.deref-item-items.result.now in
    let none : drop l.item-index xs ≡ [] = drop_all l.item-index xs (omega arith) in
    on_ok_weaker c.push-2.result
    (λ pushed.
    subst (λ ys. PushesText (array (trees_view ys)) c.args.answers.now.bytes.items c.push-2.new.self.bytes.items) c.deref-item-items.ensures.value
    (subst (PushesText (array (trees_view xs)) c.args.answers.now.bytes.items) (sym pushed) (l.invariant (93 ∷ []) (rw none (IsItemsText-end l.later)))))
    c.push-2.ensures

pub push_members-loop-name-init : goal.push_members-loop-name-init
push_members-loop-name-init n c =
    let all = members_view c.args.members.now.entries in
    record {
      done = [];
      split = search rules;
      ends = λ rest is.
          opened (object all) 123 rest _ _ c.in_ok-push.ensures
          (IsTextOf-object all rest (subst (λ entries. IsMembersText false all (members_view []) (members_view entries) rest) (search rules) is));
    }

pub push_members-loop-name-preserved : goal.push_members-loop-name-preserved
push_members-loop-name-preserved n c =
    let l = c.loop-name in
    let before = l.invariant in
    let all = members_view c.args.members.now.entries in
    let done = before.done in
    let next : Entry = (c.in-Some.name.now, c.in-Some.member.now) in
    let name = string_bytes c.in-Some.name.now in
    let left = c.next.new.self in
    let step : l.name-iterator ≡ next ∷ left = c.in-Some.ensures.steps in
    let split : c.args.members.now.entries ≡ done ++ next ∷ left = before.split ∙ ap (λ entries. done ++ entries) step in
    let last = put_last done next left (subst (λ entries. IsStrictlySortedBy string_cmp (keys_of entries)) split c.into_iter-name-iterator.ensures.into_iter_gives.5) in
    let front = comma_if l.later ++ (quoted name ++ 58 ∷ []) in
    let named : c.push_name.new.answers.bytes.items ≡ l.answers.bytes.items ++ front = search rules in
    let pushed = c.in_ok-push_tree.ensures in
    record {
      done = done ++ next ∷ [];
      split = split ∙ sym (append_assoc done (next ∷ []) left);
      ends = λ rest is.
          more (object all) c.args.answers.now.bytes.items l.answers.bytes.items front rest named pushed
          (before.ends (front ++ (pushed.text ++ rest))
          (rw step
          (IsMembersText-more l.later all (members_view done) name (tree_view next.1) (members_view left) pushed.text rest pushed.is_text (rw last is))));
    }

pub push_members-returns : goal.push_members-returns
push_members-returns n c =
    let l = c.loop-name in
    let before = l.invariant in
    let entries = c.args.members.now.entries in
    let none = c.in-None.ensures.steps.0 in
    let all : entries ≡ before.done = before.split ∙ ap (λ left. before.done ++ left) none ∙ append-nil before.done in
    on_ok_weaker c.push-2.result
    (λ pushed.
    subst (PushesText (object (members_view entries)) c.args.answers.now.bytes.items) (sym pushed)
    (before.ends (125 ∷ [])
    (rw none
    (subst (λ done. IsMembersText l.later (members_view entries) (members_view done) (members_view []) (125 ∷ [])) all
    (IsMembersText-end l.later (members_view entries))))))
    c.push-2.ensures
