-- What a step of the walk over a document does, whatever the level in which it is taken.
use Rattle.std.proofs.Common.{◌≡◌, ℕ, ◌+◌, ◌<◌, List, [], ◌∷◌, ◌++◌, length, map, Option, None, Some, Bor, BTreeMap, Global, String, refl, sym, ap, ap₂, ◌∙◌, append_assoc, append-nil, arith}
use Rattle.std.proofs.lemmas.Grind.{flat_map-append}
use Rattle.std.specs.List.{cons_option, filter_map}
use Rattle.std.specs.Option.{option_to_list}
use Rattle.std.proofs.lemmas.List.{map-append, map-id}
use Rattle.serde_json.specs.Data.{Data, object}
use Rattle.serde_json.specs.View.{members_view}
use Rattle.serde_json.specs.declared.value.Value.{Value}
use Rattle.cvss_audit.specs.Locations.{Context, Location, context_view, forms, own_context, location_as, locations_in, locations_in_members, locations_within}
use Rattle.cvss_audit.specs.LocationsLeft.{locations_in_levels, locations_in_rest, step_text, under}
use Rattle.cvss_audit.specs.private.Walking.{Enters, Visits, level_of, pointer_to, steps_in, steps_in_members, steps_in_rest, steps_left}
use Rattle.cvss_audit.specs.declared.locations.location.Context as code
use Rattle.cvss_audit.specs.declared.locations.form.Form.{Form}
use Rattle.cvss_audit.specs.declared.locations.walk.Level.{Level}
use Rattle.cvss_audit.specs.declared.locations.walk.Rest.{Rest}
use Rattle.cvss_audit.specs.declared.locations.walk.Rest.TheVariants.{Object}
use Rattle.cvss_audit.specs.declared.locations.pointer.Step.{Step}
use Rattle.cvss_audit.specs.declared.locations.pointer.Step.TheVariants.{Document}

-- a location under a pointer and a step
under_both : (step pointer : List ℕ) (locations : List Location)
    → map (under step) (map (under pointer) locations) ≡ map (under (step ++ pointer)) locations
under_both step pointer [] = refl
under_both step pointer (location ∷ locations) =
    ap (λ at. (at, location.1, location.2, location.3, location.4) ∷ map (under step) (map (under pointer) locations)) (sym (append_assoc step pointer location.0))
    ∙ ap (λ more. under (step ++ pointer) location ∷ more) (under_both step pointer locations)

locations_after : (front old new : List Level) (given : List Location) → locations_in_levels old ≡ given ++ locations_in_levels new
    → locations_in_levels (front ++ old) ≡ map (under (pointer_to front)) given ++ locations_in_levels (front ++ new)
locations_after [] old new given is = is ∙ ap (λ locations. locations ++ locations_in_levels new) (sym (map-id given))
locations_after (level ∷ front) old new given is =
    let seen = map (under (pointer_to front)) given in
    let left = locations_in_levels (front ++ new) in
    let step = step_text level.step in
    ap (λ locations. map (under step) (locations ++ locations_in_rest level.rest)) (locations_after front old new given is)
    ∙ ap (map (under step)) (append_assoc seen left (locations_in_rest level.rest))
    ∙ map-append (under step) seen (left ++ locations_in_rest level.rest)
    ∙ ap (λ locations. locations ++ map (under step) (left ++ locations_in_rest level.rest)) (under_both step (pointer_to front) given)

steps-append : (front levels : List Level) → steps_left (front ++ levels) ≡ steps_left front + steps_left levels
steps-append [] levels = omega arith
steps-append (level ∷ front) levels = omega (arith, steps-append front levels)

-- a step in the innermost levels
Visits-at : (front old new levels : List Level) (given locations : List Location) → Visits old given new
    → locations ≡ map (under (pointer_to front)) given → levels ≡ front ++ new → Visits (front ++ old) locations levels
Visits-at front old new levels given locations visits seen are = record {
  locations = locations_after front old new given visits.locations
      ∙ ap₂ (λ here left. here ++ locations_in_levels left) (sym seen) (sym are);
  fewer = omega (arith, visits.fewer, ap steps_left are, steps-append front old, steps-append front new);
}

-- before the first step
pub locations_of_document : (document : Data) (context : Context) (none levels : List Level) → none ≡ [] → context ≡ (None, None)
    → Enters Document context document none levels → locations_in_levels levels ≡ locations_in document
locations_of_document document context none levels is nowhere enters =
    ap locations_in_levels (enters.are ∙ ap (λ before. before ++ enters.added) is) ∙ enters.locations
    ∙ map-id (locations_within context document) ∙ ap (λ seen. locations_within seen document) nowhere

-- a step that leaves nothing of a level
pub Visits-nothing : (front levels : List Level) (step : Step) (old : Rest) → locations_in_rest old ≡ [] → steps_in_rest old ≡ 1
    → levels ≡ front → Visits (front ++ level_of step old ∷ []) [] levels
Visits-nothing front levels step old none one are =
    Visits-at front (level_of step old ∷ []) [] levels [] []
    (record { locations = ap (map (under (step_text step))) none; fewer = omega (arith, one) })
    refl (are ∙ sym (append-nil front))

-- the location in a form before those in later forms and in members
pub first_location : (own : Option Location) (others inner : List Location) → cons_option own others ++ inner ≡ option_to_list own ++ (others ++ inner)
first_location None others inner = refl
first_location (Some own) others inner = refl

-- a step that gives locations of a value itself, by the pointer to the level of what is next
pub Visits-own : (front levels : List Level) (step : Step) (old rest : Rest) (own locations : List Location)
    → locations_in_rest old ≡ own ++ locations_in_rest rest → steps_in_rest rest < steps_in_rest old
    → locations ≡ map (under (pointer_to levels)) own → levels ≡ front ++ level_of step rest ∷ []
    → Visits (front ++ level_of step old ∷ []) locations levels
Visits-own front levels step old rest own locations is less seen are =
    let pointer : pointer_to levels ≡ pointer_to front ++ step_text step =
    ap pointer_to are ∙ flat_map-append (λ (level : Level). step_text level.step) front (level_of step rest ∷ [])
    ∙ ap (λ text. pointer_to front ++ text) (append-nil (step_text step)) in
    Visits-at front (level_of step old ∷ []) (level_of step rest ∷ []) levels (map (under (step_text step)) own) locations
    (record { locations = ap (map (under (step_text step))) is ∙ map-append (under (step_text step)) own (locations_in_rest rest); fewer = omega (arith, less) })
    (seen ∙ ap (λ text. map (under text) own) pointer ∙ sym (under_both (pointer_to front) (step_text step) own)) are

-- a step that leaves what is after a value, and what is in the value
pub Visits-inner : (front middle levels : List Level) (step inner : Step) (old after : Rest) (context : Context) (value : Data)
    → locations_in_rest old ≡ map (under (step_text inner)) (locations_within context value) ++ locations_in_rest after
    → steps_in_rest old ≡ 1 + steps_in value + steps_in_rest after
    → middle ≡ front ++ level_of step after ∷ [] → Enters inner context value middle levels
    → Visits (front ++ level_of step old ∷ []) [] levels
Visits-inner front middle levels step inner old after context value locations steps first enters =
    Visits-at front (level_of step old ∷ []) (level_of step after ∷ enters.added) levels [] [] (record {
      locations = ap (map (under (step_text step))) (locations ∙ ap (λ here. here ++ locations_in_rest after) (sym enters.locations));
      fewer = omega (arith, steps, enters.steps);
    }) refl (enters.are ∙ ap (λ before. before ++ enters.added) first ∙ append_assoc front (level_of step after ∷ []) enters.added)

-- an object is entered: its own locations are next
pub Enters-object : (step : Step) (context : Context) (value : Data) (old new : List Level) (holder : Bor (BTreeMap (String Global) Value)) (around : code.Context)
    (asked : Bor (List Form)) (members : List (String Global × Value)) → value ≡ object (members_view holder.now.entries)
    → context_view around ≡ own_context context (members_view holder.now.entries) → asked.now ≡ forms → members ≡ holder.now.entries
    → new ≡ old ++ level_of step (Object holder around asked members) ∷ [] → Enters step context value old new
Enters-object step context value old new holder around asked members is own_is all same are = record {
  added = level_of step (Object holder around asked members) ∷ [];
  are = are;
  locations =
      let own = members_view holder.now.entries in
      let seen_locations : Context → List Form → List (String Global × Value) → List Location = λ seen each entries.
      filter_map (location_as seen own) each ++ locations_in_members seen own (members_view entries) in
      ap (map (under (step_text step)))
      (ap₂ (λ seen each. seen_locations seen each members) own_is all ∙ ap (seen_locations (own_context context own) forms) same ∙ sym (ap (locations_within context) is));
  steps = omega (arith, ap length all, ap (λ each. steps_in_members (members_view each)) same, ap steps_in is);
}
