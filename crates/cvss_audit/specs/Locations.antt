-- Where vectors are in a JSON document, and in which form: FIRST's schemas, GitHub's advisories, OSV's records,
-- CycloneDX, grype, Trivy, RustSec's advisories and SPDX 3. Locations are JSON Pointers: RFC 6901.
use Rattle.std.specs.Prelude.{ℕ, ◌+◌, ◌==◌, ◌&&◌, ◌||◌, Bool, false, List, [], ◌∷◌, ◌++◌, codes, map, flat_map, bytes_eq, if◌then◌else◌, is_some, Option, Some, None, option_map, option_and_then, unwrap_or}
use Rattle.std.specs.Char.{encode_utf8, to_ascii_uppercase}
use Rattle.std.specs.Fmt.{decimal}
use Rattle.std.specs.List.{filter_map, list_any, starts_with}
use Rattle.std.specs.Option.{option_or}
use Rattle.std.specs.Str.{chars}
use Rattle.std.specs.String.{string_bytes}
use Rattle.serde_json.specs.Data.{Data, null, boolean, number, string, array, object, Items, no_items, item, Members, no_members, member}
use Rattle.serde_json.specs.Find.{as_null, as_object, as_str, get_member}
use Rattle.serde_json.specs.View.{members_view}
use Rattle.cvss_audit.specs.declared.locations.location.Around as code_around
use Rattle.cvss_audit.specs.declared.locations.location.Context as code_context
use Rattle.cvss_audit.specs.declared.locations.location.Location as code
use Rattle.cvss_audit.specs.declared.locations.form.Form.{Form}
use Rattle.cvss_audit.specs.declared.locations.form.Form.TheVariants.{Record, GitHub, Osv, Rating, TrivyV2, TrivyV3, TrivyV40, RustSec, Spdx}

-- the text of the member with this name, if it is a string
abbrev pub text_at : List ℕ → Members → Option (List ℕ)
text_at name members = option_and_then as_str (get_member name members)

-- the members of the member with this name, if it is an object
abbrev pub object_at : List ℕ → Members → Option Members
object_at name members = option_and_then as_object (get_member name members)

-- the text of a member of the member with this name
abbrev pub text_within : List ℕ → List ℕ → Members → Option (List ℕ)
text_within outer inner members = option_and_then (text_at inner) (object_at outer members)

-- the value of the member with this name, unless it is null
abbrev pub given_at : List ℕ → Members → Option Data
given_at name members =
    option_and_then (λ value. if is_some (as_null value) then None else Some value) (get_member name members)

-- the name is one of these
abbrev pub is_among : List ℕ → List (List ℕ) → Bool
is_among name names = list_any (λ each. bytes_eq name each) names

-- the id that an object has: as NVD has it beside a CVE, a CVE record, GitHub's advisories, most others, CSAF, Trivy
-- and SPDX 3
abbrev pub id_of : Members → Option (List ℕ)
id_of members =
    option_or (text_within (codes "cve") (codes "id") members)
    (option_or (text_within (codes "cveMetadata") (codes "cveId") members)
    (option_or (text_at (codes "ghsa_id") members)
    (option_or (text_at (codes "id") members)
    (option_or (text_at (codes "cve") members)
    (option_or (text_at (codes "VulnerabilityID") members)
    (text_at (codes "spdxId") members))))))

-- the name of a member, the members of the object that has it, and the name of the member that this object is
abbrev pub Around : Type 0
Around = List ℕ × Members × Option (List ℕ)

-- the member that a value is, if it is one or in an array that is one, and the id of the nearest object around it that
-- has one
abbrev pub Context : Type 0
Context = Option Around × Option (List ℕ)

-- the name of the member that a value is
abbrev pub name_in : Context → Option (List ℕ)
name_in context = option_map (λ around. around.0) context.0

-- the context of the value of a member with this name, by that of the object
abbrev pub member_context : Context → Members → List ℕ → Context
member_context context members name = (Some (name, members, name_in context), context.1)

-- what is around an object's own vectors, to which the object itself is the nearest
abbrev pub own_context : Context → Members → Context
own_context context members = (context.0, option_or (id_of members) context.1)

-- the text of the vector that the member with this name should be, if it is there; none where it is no string
abbrev pub vector_at : List ℕ → Members → Option (Option (List ℕ))
vector_at name members = option_map as_str (given_at name members)

-- the type that OSV gives a score of CVSS
abbrev pub is_osv_type : List ℕ → Bool
is_osv_type reported = is_among reported (codes "CVSS_V2" ∷ codes "CVSS_V3" ∷ codes "CVSS_V4" ∷ [])

-- the object holds a vector's text as FIRST's schemas or GitHub's advisories have it
abbrev pub has_string : Members → Bool
has_string members = is_some (given_at (codes "vectorString") members) || is_some (given_at (codes "vector_string") members)

-- the text begins with these capitals, in any ASCII case
abbrev pub begins_with : List ℕ → List ℕ → Bool
begins_with capitals text = starts_with (λ x y. x == y) (map to_ascii_uppercase text) capitals

-- a method that is named as CycloneDX names versions of CVSS, in any ASCII case
abbrev pub is_cvss_method : List ℕ → Bool
is_cvss_method method = begins_with (codes "CVSS") method

-- the value is a text with the prefix of CVSS v3 and v4
abbrev pub is_prefixed : Data → Bool
is_prefixed value = unwrap_or (option_map (λ text. starts_with (λ x y. x == y) text (codes "CVSS:")) (as_str value)) false

-- the type and the score, where one of them says that it is CVSS's, as OSV has them
abbrev pub is_osv : List ℕ → Data → Bool
is_osv reported score = is_osv_type reported || is_prefixed score

-- a score of CVSS beside a type, as OSV has it
abbrev pub osv_score : Members → Option Data
osv_score members =
    option_and_then (λ reported. option_and_then (λ score. if is_osv reported score then Some score else None) (given_at (codes "score") members))
    (text_at (codes "type") members)

-- the text begins as vectors do, in any ASCII case
abbrev pub begins_as_vector : List ℕ → Bool
begins_as_vector text = begins_with (codes "CVSS") text || begins_with (codes "AV:") text

-- a space, a parenthesis or a bracket before a vector
abbrev pub is_opening : ℕ → Bool
is_opening byte = byte == 32 || (byte == 40 || byte == 91)

-- the text was meant as a vector: it begins as vectors do, or does so after one of these
abbrev pub is_like_vector : List ℕ → Bool
is_like_vector [] = false
is_like_vector (byte ∷ text) = begins_as_vector (byte ∷ text) || (is_opening byte && begins_as_vector text)

-- the value is such a text
abbrev pub is_meant : Data → Bool
is_meant value = unwrap_or (option_map is_like_vector (as_str value)) false

-- the object has a `method` that is a version of CVSS
abbrev pub has_cvss_method : Members → Bool
has_cvss_method members = unwrap_or (option_map is_cvss_method (text_at (codes "method") members)) false

-- a vector with this value is one of CVSS: its `method` is, or there is no method, and there are metrics, as grype has
-- them, or the text was meant as a vector
abbrev pub is_cvss_rating : Members → Data → Bool
is_cvss_rating members vector =
    if is_some (given_at (codes "method") members) then has_cvss_method members
    else is_some (object_at (codes "metrics") members) || is_meant vector

-- the vector of a rating, as CycloneDX and grype have it
abbrev pub rating_vector : Members → Option Data
rating_vector members =
    option_and_then (λ vector. if is_cvss_rating members vector then Some vector else None) (given_at (codes "vector") members)

-- the object is the member of this name
abbrev pub is_named : List ℕ → Option Around → Bool
is_named name around = unwrap_or (option_map (λ each. bytes_eq each.0 name) around) false

-- the text of the vector that the object holds in a form, which is none where there is no string. A `score` beside
-- another form is a vector's only if it is a string, and so is `cvss`, which has to be in a member `advisory`.
abbrev pub vector_as : Option Around → Members → Form → Option (Option (List ℕ))
vector_as around members Record = vector_at (codes "vectorString") members
vector_as around members GitHub = vector_at (codes "vector_string") members
vector_as around members Osv =
    if has_string members then option_map Some (option_and_then as_str (osv_score members))
    else option_map as_str (osv_score members)
vector_as around members Rating = option_map as_str (rating_vector members)
vector_as around members TrivyV2 = vector_at (codes "V2Vector") members
vector_as around members TrivyV3 = vector_at (codes "V3Vector") members
vector_as around members TrivyV40 = vector_at (codes "V40Vector") members
vector_as around members RustSec =
    if is_named (codes "advisory") around then option_map Some (text_at (codes "cvss") members) else None
vector_as around members Spdx = vector_at (codes "security_vectorString") members

-- a pointer to an object, the form and the text of its vector, its members, and what is around it
abbrev pub Location : Type 0
Location = List ℕ × Form × Option (List ℕ) × Members × Context

-- a location and what is around it, as the code holds them
abbrev pub around_view : code_around.Around → Around
around_view around = (around.name.now, members_view around.object.now.entries, option_map (λ outer. outer.now) around.outer)

abbrev pub context_view : code_context.Context → Context
context_view context = (option_map around_view context.around, option_map (λ id. id.now) context.id)

abbrev pub location_view : code.Location → Location
location_view location = (
  string_bytes location.at,
  location.form,
  option_map (λ text. text.now) location.text,
  members_view location.object.now.entries,
  context_view location.context,
)

-- a character of a name in a pointer: `~` is written `~0`, and `/` is written `~1`
abbrev pub escaped_char : ℕ → List ℕ
escaped_char char = if char == 126 then codes "~0" else (if char == 47 then codes "~1" else encode_utf8 char)

-- a name in a pointer
abbrev pub escaped : List ℕ → List ℕ
escaped name = flat_map escaped_char (chars name)

-- a location in a value, seen from what holds the value at this step
abbrev pub below : List ℕ → Location → Location
below step location = (codes "/" ++ step ++ location.0, location.1, location.2, location.3, location.4)

-- the location of the object itself in a form, if it holds a vector in that form
abbrev pub location_as : Context → Members → Form → Option Location
location_as context members form = option_map (λ text. ([], form, text, members, context)) (vector_as context.0 members form)

-- the forms in the order in which an object is looked at
abbrev pub forms : List Form
forms = Record ∷ GitHub ∷ Osv ∷ Rating ∷ TrivyV2 ∷ TrivyV3 ∷ TrivyV40 ∷ RustSec ∷ Spdx ∷ []

-- the locations of the object itself: one for each form in which it holds a vector
abbrev pub locations_of : Context → Members → List Location
locations_of context members = filter_map (location_as context members) forms

-- all locations in a value in this context: an object's own before those in it, those of members in the order of their
-- names, and those of items in their order
abbrev mutual
  pub locations_within : Context → Data → List Location
  locations_within context null = []
  locations_within context (boolean _) = []
  locations_within context (number _) = []
  locations_within context (string _) = []
  locations_within context (array items) = locations_in_items context 0 items
  locations_within context (object members) =
      locations_of (own_context context members) members
      ++ locations_in_members (own_context context members) members members

  pub locations_in_items : Context → ℕ → Items → List Location
  locations_in_items context index no_items = []
  locations_in_items context index (item value rest) =
      map (below (decimal index)) (locations_within context value) ++ locations_in_items context (index + 1) rest

  pub locations_in_members : Context → Members → Members → List Location
  locations_in_members context all no_members = []
  locations_in_members context all (member name value rest) =
      map (below (escaped name)) (locations_within (member_context context all name) value)
      ++ locations_in_members context all rest

-- all locations in a document
abbrev pub locations_in : Data → List Location
locations_in document = locations_within (None, None) document
