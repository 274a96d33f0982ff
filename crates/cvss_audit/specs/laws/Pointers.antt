-- What a JSON Pointer leads to: RFC 6901, section 4.
use Rattle.std.specs.Prelude.{◌≡◌, ℕ, List, [], ◌++◌, codes, Some, None, ⊤}
use Rattle.std.specs.Fmt.{decimal}
use Rattle.serde_json.specs.Data.{Data, null, boolean, number, string, array, object, Items, no_items, item, Members, no_members, member}
use Rattle.serde_json.specs.Find.{get_item, get_member}
use Rattle.cvss_audit.specs.Locations.{escaped}

-- from a value the pointer leads to another: the empty one to the value itself; else its first step leads to the
-- item of that number, or to the member of that name, and what is left of the pointer leads on from there
pub data LeadsTo : List ℕ → Data → Data → Type 0 where
  here : (value : Data) → LeadsTo [] value value
  by_item : (index : ℕ) (items : Items) (inner goal : Data) (rest : List ℕ) → get_item index items ≡ Some inner
      → LeadsTo rest inner goal → LeadsTo (codes "/" ++ (decimal index ++ rest)) (array items) goal
  by_member : (name : List ℕ) (members : Members) (inner goal : Data) (rest : List ℕ) → get_member name members ≡ Some inner
      → LeadsTo rest inner goal → LeadsTo (codes "/" ++ (escaped name ++ rest)) (object members) goal

-- each object in the value has each name once
abbrev mutual
  pub HasNamesOnce : Data → Type 0
  HasNamesOnce null = ⊤
  HasNamesOnce (boolean _) = ⊤
  HasNamesOnce (number _) = ⊤
  HasNamesOnce (string _) = ⊤
  HasNamesOnce (array items) = ItemsHaveNamesOnce items
  HasNamesOnce (object members) = MembersHaveNamesOnce members

  pub ItemsHaveNamesOnce : Items → Type 0
  ItemsHaveNamesOnce no_items = ⊤
  ItemsHaveNamesOnce (item value rest) = HasNamesOnce value × ItemsHaveNamesOnce rest

  pub MembersHaveNamesOnce : Members → Type 0
  MembersHaveNamesOnce no_members = ⊤
  MembersHaveNamesOnce (member name value rest) =
      (get_member name rest ≡ None) × (HasNamesOnce value × MembersHaveNamesOnce rest)
