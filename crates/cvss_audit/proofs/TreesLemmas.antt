-- A `BTreeMap` of trees beside the members that it stands for.
use Rattle.std.proofs.Common.{◌≡◌, List, [], ◌∷◌, ◌++◌, String, Global, Ordering, Less, Equal, Greater, string_bytes, string_cmp, nat_cmp, refl, ap, ◌∙◌}
use Rattle.std.proofs.lemmas.Cmp.{nat_list_cmp_total}
use Rattle.std.specs.BTreeMap.{insert_entry}
use Rattle.std.specs.Cmp.Lexicographic.{slice_cmp}
use Rattle.std.specs.List.{AllByRecursion}
use Rattle.std.specs.List.Sorted.{IsStrictlySortedBy}
use Rattle.std.specs.Map.{keys_of}
use Rattle.std.specs.Ordering.{match_ordering, ordering_reverse}
use Rattle.serde_json.specs.Data.{member, put}
use Rattle.cvss_audit.specs.Trees.{members_view, tree_view}
use Rattle.cvss_audit.specs.declared.tree.value.Tree.{Tree}

abbrev pub Entry : Type 0
Entry = String Global × Tree

members_view-match_ordering : (o : Ordering) (a b c : List Entry)
    → members_view (match_ordering o a b c) ≡ match_ordering o (members_view a) (members_view b) (members_view c)
members_view-match_ordering Less a b c = refl
members_view-match_ordering Equal a b c = refl
members_view-match_ordering Greater a b c = refl

-- what is inserted is put
pub members_view-insert_entry : (entries : List Entry) (name : String Global) (value : Tree)
    → members_view (insert_entry string_cmp entries name value) ≡ put (string_bytes name) (tree_view value) (members_view entries)
members_view-insert_entry [] name value = refl
members_view-insert_entry (each ∷ entries) name value =
    members_view-match_ordering (string_cmp name each.0) _ _ _ ∙ rw (members_view-insert_entry entries name value)

below_middle : (first : Entry) (done : List Entry) (next : Entry) (more : List Entry)
    → AllByRecursion (λ name. string_cmp first.0 name ≡ Less) (keys_of (done ++ next ∷ more)) → string_cmp first.0 next.0 ≡ Less
below_middle first [] next more below = below.0
below_middle first (each ∷ done) next more below = below_middle first done next more below.1

-- a name that is above those before it goes last
pub put_last : (done : List Entry) (next : Entry) (more : List Entry) → IsStrictlySortedBy string_cmp (keys_of (done ++ next ∷ more))
    → put (string_bytes next.0) (tree_view next.1) (members_view done) ≡ members_view (done ++ next ∷ [])
unfolding IsStrictlySortedBy
put_last [] next more sorted = refl
put_last (first ∷ done) next more sorted =
    let above : slice_cmp nat_cmp (string_bytes next.0) (string_bytes first.0) ≡ Greater =
    nat_list_cmp_total.antisymm (string_bytes next.0) (string_bytes first.0) ∙ ap ordering_reverse (below_middle first done next more sorted.0) in
    rw above (ap (member (string_bytes first.0) (tree_view first.1)) (put_last done next more sorted.1))
