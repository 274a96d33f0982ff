-- The pointer of each location leads to its object.
use Rattle.std.proofs.Common.{◌≡◌, ℕ, suc, ◌+◌, List, [], ◌∷◌, All, Option, Some, None, Ordering, Less, Equal, Greater, nat_cmp, bytes_eq, true, refl, sym, ap, ◌∙◌, arith, option_map, zero-add}
use Rattle.std.proofs.lemmas.Cmp.{nat_list_cmp_total, tied_itself}
use Rattle.std.proofs.lemmas.List.Elements.{All-append, All-cons, All-map, All-nil}
use Rattle.std.proofs.lemmas.Map.Text.{is_eq-slice_cmp}
use Rattle.std.proofs.lemmas.Slice.Eq.{bytes_eq-Decides}
use Rattle.std.specs.Cmp.Lexicographic.{slice_cmp}
use Rattle.std.specs.Fmt.{decimal}
use Rattle.std.specs.List.{cons_option, filter_map}
use Rattle.std.specs.Option.{IfSome}
use Rattle.std.specs.Ordering.{match_ordering}
use Rattle.serde_json.specs.Data.{Data, array, object, Items, no_items, item, Members, no_members, member}
use Rattle.serde_json.specs.Find.{get_item, get_member}
use Rattle.cvss_audit.specs.Locations.{Context, Location, below, escaped, forms, location_as, locations_in, locations_in_items, locations_in_members, locations_of, locations_within, member_context, own_context, vector_as}
use Rattle.cvss_audit.specs.laws.Pointers.{LeadsTo, here, by_item, by_member, HasNamesOnce, ItemsHaveNamesOnce, MembersHaveNamesOnce}
use Rattle.cvss_audit.specs.declared.locations.form.Form.{Form}

-- a member that no other follows with its name is not hidden by the one before it
found_at : (order : Ordering) (name sought : List ℕ) (value found : Data) (rest : Members) → slice_cmp nat_cmp sought name ≡ order
    → get_member name rest ≡ None → get_member sought rest ≡ Some found
    → match_ordering order (get_member sought rest) (Some value) (get_member sought rest) ≡ Some found
found_at Less name sought value found rest ordered once is = is
found_at Greater name sought value found rest ordered once is = is
found_at Equal name sought value found rest ordered once is =
    let equal : bytes_eq sought name ≡ true = sym (is_eq-slice_cmp sought name) ∙ rw ordered refl in
    let same : sought ≡ name = (bytes_eq-Decides sought name).0 equal in
    absurd (cc)

-- the name of the first member finds it
first_found : (name : List ℕ) (value : Data) (rest : Members) → get_member name (member name value rest) ≡ Some value
first_found name value rest = rw (tied_itself nat_list_cmp_total name) refl

own_more : (location : Option Location) (rest : List Location) (Q : Location → Type 0) → IfSome location Q → All Q rest → All Q (cons_option location rest)
own_more None rest Q first more = more
own_more (Some location) rest Q first more = All-cons Q location rest first more

in_form : (context : Context) (own : Members) (form : Form) (text : Option (Option (List ℕ))) (Q : Location → Type 0)
    → ((text : Option (List ℕ)) → Q ([], form, text, own, context)) → IfSome (option_map (λ text. ([], form, text, own, context)) text) Q
in_form context own form None Q each = tt
in_form context own form (Some text) Q each = each text

own_locations : (context : Context) (own : Members) (forms : List Form) (Q : Location → Type 0)
    → ((form : Form) (text : Option (List ℕ)) → Q ([], form, text, own, context)) → All Q (filter_map (location_as context own) forms)
own_locations context own [] Q each = All-nil Q
own_locations context own (form ∷ forms) Q each =
    own_more (location_as context own form) (filter_map (location_as context own) forms) Q (in_form context own form (vector_as context.0 own form) Q (each form))
    (own_locations context own forms Q each)

-- what holds wherever a pointer leads to an object holds of each location
mutual
  in_data : (context : Context) (value : Data) → HasNamesOnce value → (Q : Location → Type 0)
      → ((location : Location) → LeadsTo location.0 value (object location.3) → Q location) → All Q (locations_within context value)
  in_data context (array items) once Q each = in_items context items items 0 (λ index found is. ap (λ sought. get_item sought items) (zero-add index) ∙ is) once Q each
  in_data context (object members) once Q each =
      let own = own_context context members in
      All-append Q (locations_of own members) (locations_in_members own members members)
      (own_locations own members forms Q (λ form text. each ([], form, text, members, own) (here (object members))))
      (in_members own members members (λ name found is. is) once Q each)
  in_data context _ once Q each = All-nil Q

  in_items : (context : Context) (all rest : Items) (start : ℕ)
      → ((index : ℕ) (found : Data) → get_item index rest ≡ Some found → get_item (start + index) all ≡ Some found)
      → ItemsHaveNamesOnce rest → (Q : Location → Type 0)
      → ((location : Location) → LeadsTo location.0 (array all) (object location.3) → Q location) → All Q (locations_in_items context start rest)
  in_items context all no_items start held once Q each = All-nil Q
  in_items context all (item value rest) start held once Q each =
      let at_start : get_item start all ≡ Some value = ap (λ index. get_item index all) (omega arith) ∙ held 0 value refl in
      All-append Q _ (locations_in_items context (start + 1) rest)
      (All-map Q (below (decimal start)) (locations_within context value)
      (in_data context value once.0 (λ location. Q (below (decimal start) location))
      (λ location leads. each (below (decimal start) location) (by_item start all value (object location.3) location.0 at_start leads))))
      (in_items context all rest (start + 1)
      (λ index found is. ap (λ index. get_item index all) (omega arith) ∙ held (suc index) found is) once.1 Q each)

  in_members : (context : Context) (all rest : Members)
      → ((name : List ℕ) (found : Data) → get_member name rest ≡ Some found → get_member name all ≡ Some found)
      → MembersHaveNamesOnce rest → (Q : Location → Type 0)
      → ((location : Location) → LeadsTo location.0 (object all) (object location.3) → Q location) → All Q (locations_in_members context all rest)
  in_members context all no_members held once Q each = All-nil Q
  in_members context all (member name value rest) held once Q each =
      All-append Q _ (locations_in_members context all rest)
      (All-map Q (below (escaped name)) (locations_within (member_context context all name) value)
      (in_data (member_context context all name) value once.1.0 (λ location. Q (below (escaped name) location))
      (λ location leads. each (below (escaped name) location)
      (by_member name all value (object location.3) location.0 (held name value (first_found name value rest)) leads))))
      (in_members context all rest
      (λ sought found is. held sought found (found_at (slice_cmp nat_cmp sought name) name sought value found rest refl once.0 is))
      once.1.1 Q each)

pub pointers_lead : (document : Data) → HasNamesOnce document → All (λ location. LeadsTo location.0 document (object location.3)) (locations_in document)
pointers_lead document once = in_data (None, None) document once (λ location. LeadsTo location.0 document (object location.3)) (λ location leads. leads)
