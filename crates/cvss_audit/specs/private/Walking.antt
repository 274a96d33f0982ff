-- What a step of the walk over a document does.
use Rattle.std.specs.Prelude.{◌≡◌, ℕ, ◌+◌, ◌<◌, List, [], ◌∷◌, ◌++◌, drop, flat_map, length, map}
use Rattle.serde_json.specs.Data.{Data, null, boolean, number, string, array, object, Items, no_items, item, Members, no_members, member}
use Rattle.serde_json.specs.View.{items_view, members_view}
use Rattle.cvss_audit.specs.Locations.{Context, Location, locations_within}
use Rattle.cvss_audit.specs.LocationsLeft.{locations_in_levels, step_text, under}
use Rattle.cvss_audit.specs.declared.locations.walk.Level.{Level}
use Rattle.cvss_audit.specs.declared.locations.walk.Rest.{Rest}
use Rattle.cvss_audit.specs.declared.locations.walk.Rest.TheVariants as rest
use Rattle.cvss_audit.specs.declared.locations.pointer.Step.{Step}

-- a level
abbrev pub level_of : Step → Rest → Level
level_of step rest = record { step = step; rest = rest }

-- the pointer to the value of the last level
abbrev pub pointer_to : List Level → List ℕ
pointer_to levels = flat_map (λ level. step_text level.step) levels

-- how many steps visit all that is in a value
abbrev mutual
  pub steps_in : Data → ℕ
  steps_in null = 0
  steps_in (boolean _) = 0
  steps_in (number _) = 0
  steps_in (string _) = 0
  steps_in (array items) = steps_in_items items
  steps_in (object members) = 9 + steps_in_members members

  pub steps_in_items : Items → ℕ
  steps_in_items no_items = 1
  steps_in_items (item value rest) = 1 + steps_in value + steps_in_items rest

  pub steps_in_members : Members → ℕ
  steps_in_members no_members = 1
  steps_in_members (member name value rest) = 1 + steps_in value + steps_in_members rest

-- how many steps visit what is left in a value
abbrev pub steps_in_rest : Rest → ℕ
steps_in_rest (rest.Items items index context) = steps_in_items (items_view (drop index items.now))
steps_in_rest (rest.Object holder context forms members) = length forms.now + steps_in_members (members_view members)

-- how many steps visit all that is left
abbrev pub steps_left : List Level → ℕ
steps_left [] = 0
steps_left (level ∷ inner) = steps_in_rest level.rest + steps_left inner

-- a step gives these locations, leaves the others, and there is one step less to come
pub record Visits (old : List Level) (given : List Location) (new : List Level) : Type 0 where
  pub locations : locations_in_levels old ≡ given ++ locations_in_levels new
  pub fewer : steps_left new < steps_left old

-- what is in a value, to which a step leads, is visited next
pub record Enters (step : Step) (context : Context) (value : Data) (old new : List Level) : Type 0 where
  pub added : List Level
  pub are : new ≡ old ++ added
  pub locations : locations_in_levels added ≡ map (under (step_text step)) (locations_within context value)
  pub steps : steps_left added ≡ steps_in value
