-- The texts that `cvss_json` defines, beside the values that they are read as.
use Rattle.std.proofs.Common.{◌≡◌, ℕ, Bool, true, false, List, [], ◌∷◌, ◌++◌, Less, Greater, map, nat_cmp, refl, sym, ap, ap₂, ◌∙◌, subst, append_assoc, append-nil, Float, Some, option_map, unwrap_or, if◌then◌else◌}
use Rattle.std.proofs.lemmas.Cmp.{nat_list_cmp_total}
use Rattle.std.specs.Cmp.Lexicographic.{slice_cmp}
use Rattle.std.specs.List.{AllByRecursion}
use Rattle.std.specs.List.Sorted.{IsStrictlySortedBy}
use Rattle.std.specs.Ordering.{ordering_reverse}
use Rattle.json.specs.Json as json
use Rattle.json.specs.Print.{IsNumber, print_from, quoted}
use Rattle.serde_json.specs.Data.{Members, float, member, no_members, number, put, string}
use Rattle.serde_json.specs.Find.{is_float}
use Rattle.serde_json.specs.Read.{number_of}
use Rattle.serde_json.specs.Written as written
use Rattle.cvss_json.specs.Json as object
use Rattle.cvss_json.specs.Json.{comma_if, member_text, object_text, rest_of_object, string_text}
use Rattle.cvss_audit.specs.Members.{Member, object_of, with_members}
use Rattle.cvss_audit.specs.Texts.{IsTextOf}
use Rattle.cvss_audit.specs.laws.ObjectTexts.{AreInOrder, AreMemberTexts, IsMemberText, IsUnescaped}
use Rattle.cvss_audit.proofs.PartsLemmas.{IsMembersText, IsMembersText-end, IsMembersText-more, IsTextOf-object}
use Rattle.cvss_audit.proofs.PrintsLemmas.{text_of}

-- ---- strings

pub string_reads : (text : List ℕ) → IsUnescaped text → IsTextOf (string text) (string_text text)
unfolding print_from
string_reads text unescaped = text_of (string text) (string_text text) (record {
  json = json.string text;
  printed = unescaped ∙ sym (append-nil (quoted text));
  numbers = tt;
  reads = λ shallow. refl;
  outlined = refl;
})

-- ---- numbers

pub float_reads : (value : Float) (text : List ℕ) → IsNumber text → number_of text ≡ Some (float value) → IsTextOf (number (float value)) text
unfolding print_from
float_reads value text is reads = text_of (number (float value)) text (record {
  json = json.number text;
  printed = sym (append-nil text);
  numbers = is;
  reads = λ shallow. ap (option_map number) reads;
  outlined = ap (λ read. json.number (if unwrap_or (option_map is_float read) false then [] else text)) reads;
})

-- ---- members in the order in which they are written

abbrev in_turn : List Member → Members
in_turn [] = no_members
in_turn (each ∷ rest) = member each.0 each.1 (in_turn rest)

comma : (later : Bool) → written.comma_if later ≡ comma_if later
comma true = refl
comma false = refl

front : (later : Bool) (name : List ℕ) (one : Member) (other : object.Member) → IsMemberText one other → (rest : List ℕ)
    → (written.comma_if later ++ (quoted one.0 ++ 58 ∷ [])) ++ (other.1 ++ rest) ≡ comma_if later ++ (member_text other ++ rest)
front later name one other is rest =
    let named : quoted one.0 ≡ string_text other.0 = sym is.unescaped ∙ ap string_text (sym is.name) in
    ap₂ (λ comma name. (comma ++ (name ++ 58 ∷ [])) ++ (other.1 ++ rest)) (comma later) named
    ∙ append_assoc (comma_if later) (string_text other.0 ++ 58 ∷ []) (other.1 ++ rest)
    ∙ ap (λ back. comma_if later ++ back) (append_assoc (string_text other.0) (58 ∷ []) (other.1 ++ rest) ∙ sym (append_assoc (string_text other.0) (58 ∷ other.1) rest))

members_read : (later : Bool) (found : Members) (members : List Member) (texts : List object.Member) → AreMemberTexts members texts
    → IsMembersText later (with_members members found) found (in_turn members) (rest_of_object later texts)
members_read later found [] [] are = IsMembersText-end later found
members_read later found [] (text ∷ texts) are = absurd are
members_read later found (one ∷ members) [] are = absurd are
members_read later found (one ∷ members) (text ∷ texts) are =
    subst (IsMembersText later (with_members (one ∷ members) found) found (in_turn (one ∷ members))) (front later one.0 one text are.0 (rest_of_object true texts))
    (IsMembersText-more later (with_members (one ∷ members) found) found one.0 one.1 (in_turn members) text.1 (rest_of_object true texts) are.0.value
    (members_read true (put one.0 one.1 found) members texts are.1))

-- ---- in the order of their names, they are the object's

below_middle : (name : List ℕ) (done : List Member) (next : Member) (rest : List Member)
    → AllByRecursion (λ other. slice_cmp nat_cmp name other ≡ Less) (map (λ member. member.0) (done ++ next ∷ rest)) → slice_cmp nat_cmp name next.0 ≡ Less
below_middle name [] next rest below = below.0
below_middle name (each ∷ done) next rest below = below_middle name done next rest below.1

put_last : (done : List Member) (next : Member) (rest : List Member) → AreInOrder (done ++ next ∷ rest)
    → put next.0 next.1 (in_turn done) ≡ in_turn (done ++ next ∷ [])
unfolding IsStrictlySortedBy
put_last [] next rest sorted = refl
put_last (first ∷ done) next rest sorted =
    let above : slice_cmp nat_cmp next.0 first.0 ≡ Greater = nat_list_cmp_total.antisymm next.0 first.0 ∙ ap ordering_reverse (below_middle first.0 done next rest sorted.0) in
    rw above (ap (member first.0 first.1) (put_last done next rest sorted.1))

are_put : (done members : List Member) → AreInOrder (done ++ members) → with_members members (in_turn done) ≡ in_turn (done ++ members)
are_put done [] sorted = ap in_turn (sym (append-nil done))
are_put done (next ∷ rest) sorted =
    let split = append_assoc done (next ∷ []) rest in
    ap (with_members rest) (put_last done next rest sorted)
    ∙ are_put (done ++ next ∷ []) rest (subst AreInOrder (sym split) sorted)
    ∙ ap in_turn split

pub object_reads : (members : List Member) (texts : List object.Member) → AreInOrder members → AreMemberTexts members texts
    → IsTextOf (object_of members) (object_text texts)
object_reads members texts sorted are =
    let all = with_members members no_members in
    IsTextOf-object all (rest_of_object false texts)
    (subst (λ left. IsMembersText false all no_members left (rest_of_object false texts)) (sym (are_put [] members sorted)) (members_read false no_members members texts are))
