-- The locations of vectors that the walk over a document has still to return.
use Rattle.std.specs.Prelude.{◌≡◌, ℕ, List, [], ◌∷◌, ◌++◌, codes, drop, map, Option, None, Some}
use Rattle.std.specs.Fmt.{decimal}
use Rattle.std.specs.List.{filter_map}
use Rattle.serde_json.specs.View.{items_view, members_view}
use Rattle.cvss_audit.specs.Locations.{Location, context_view, escaped, location_as, location_view, locations_in_items, locations_in_members}
use Rattle.cvss_audit.specs.declared.locations.location.Location as code
use Rattle.cvss_audit.specs.declared.locations.walk.Level.{Level}
use Rattle.cvss_audit.specs.declared.locations.walk.Locations.{Locations}
use Rattle.cvss_audit.specs.declared.locations.walk.Rest.{Rest}
use Rattle.cvss_audit.specs.declared.locations.walk.Rest.TheVariants.{Items, Object}
use Rattle.cvss_audit.specs.declared.locations.pointer.Step.{Step}
use Rattle.cvss_audit.specs.declared.locations.pointer.Step.TheVariants.{Document, Member, Item}

-- a step of a pointer, which is none to the document itself
abbrev pub step_text : Step → List ℕ
step_text Document = []
step_text (Member name) = codes "/" ++ escaped name.now
step_text (Item index) = codes "/" ++ decimal index

-- the locations in what is still to be visited in a value, seen from the value
abbrev pub locations_in_rest : Rest → List Location
locations_in_rest (Items items index context) = locations_in_items (context_view context) index (items_view (drop index items.now))
locations_in_rest (Object holder context forms members) =
    filter_map (location_as (context_view context) (members_view holder.now.entries)) forms.now
    ++ locations_in_members (context_view context) (members_view holder.now.entries) (members_view members)

-- a location that a pointer leads to, seen from where another pointer begins that leads to its start
abbrev pub under : List ℕ → Location → Location
under pointer location = (pointer ++ location.0, location.1, location.2, location.3, location.4)

-- the locations that are left in levels, each of which is in the one before it: those of the inner ones come first
abbrev pub locations_in_levels : List Level → List Location
locations_in_levels [] = []
locations_in_levels (level ∷ inner) = map (under (step_text level.step)) (locations_in_levels inner ++ locations_in_rest level.rest)

-- the locations that are left
abbrev pub locations_left : Locations → List Location
locations_left locations = locations_in_levels locations.levels.items

-- what the next step gives: the first of the locations that were left, if one was
abbrev pub IsNextLocation : List Location → Option code.Location → List Location → Type 0
IsNextLocation old None new = old ≡ []
IsNextLocation old (Some location) new = old ≡ location_view location ∷ new
