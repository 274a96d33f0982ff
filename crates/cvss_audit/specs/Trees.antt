-- JSON values of which parts are elsewhere: RFC 8259, section 3.
use Rattle.std.specs.Prelude.{List, map, String}
use Rattle.std.specs.declared.alloc.Global.{Global}
use Rattle.serde_json.specs.Data.{Data, string, array, object, Items, Members}
use Rattle.serde_json.specs.View.{items_of, members_of, view}
use Rattle.cvss_audit.specs.declared.tree.value.Tree.{Tree, fold-Tree}
use Rattle.cvss_audit.specs.declared.tree.value.Tree.TheOpen.{Tree-F}

-- one level, where each value inside is already seen as its data
abbrev pub tree_step : Tree-F Data → Data
tree_step (Tree-F.Own value) = view value
tree_step (Tree-F.Borrowed value) = view value.now
tree_step (Tree-F.Text text) = string text.now
tree_step (Tree-F.Array items) = array (items_of items.items)
tree_step (Tree-F.Object members) = object (members_of members.entries)

-- the value that is written
abbrev pub tree_view : Tree → Data
tree_view = fold-Tree Data tree_step

-- the values of an array
abbrev pub trees_view : List Tree → Items
trees_view trees = items_of (map tree_view trees)

-- the members of an object
abbrev pub members_view : List (String Global × Tree) → Members
members_view members = members_of (map (λ member. (member.0, tree_view member.1)) members)
