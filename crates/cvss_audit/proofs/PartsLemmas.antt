-- The text of an array or an object from those of the values in it.
use Rattle.std.proofs.Common.{◌≡◌, ℕ, ◌≤◌, Bool, true, false, List, [], ◌∷◌, ◌++◌, Some, option_map, option_and_then, refl, sym, ap, ap₂, ◌∙◌, subst, arith, append_assoc}
use Rattle.json.specs.Json as json
use Rattle.json.specs.Print.{print_from, quoted}
use Rattle.json.specs.Tree.{ItemsHaveNumbers, MembersHaveNumbers, items_tokens, members_tokens}
use Rattle.serde_json.specs.Data.{Data, array, object, Items, no_items, item, Members, no_members, member, put, items_depth, members_depth}
use Rattle.serde_json.specs.Read.{max_depth, of_items, of_members}
use Rattle.serde_json.specs.Written.{blank_items, blank_members, comma_if, items_outline, members_outline}
use Rattle.cvss_audit.specs.Texts.{IsTextOf}
use Rattle.cvss_audit.specs.private.Pushes.{PushesText}
use Rattle.cvss_audit.proofs.PrintsLemmas.{print_before, print_member, print_of, text_of}

-- ---- arrays

-- the text is that of the values that are left of an array, with the closing bracket
pub record IsItemsText (later : Bool) (left : Items) (text : List ℕ) : Type 0 where
  pub items : json.Items
  pub printed : text ≡ print_from later (items_tokens items)
  pub numbers : ItemsHaveNumbers items
  pub reads : items_depth left ≤ max_depth → of_items items ≡ Some left
  pub outlined : blank_items items ≡ items_outline left

pub IsItemsText-end : (later : Bool) → IsItemsText later no_items (93 ∷ [])
unfolding print_from
IsItemsText-end later = record {
  items = json.no_items;
  printed = elim later as (λ b. 93 ∷ [] ≡ print_from b (items_tokens json.no_items)) [ true ↦ refl | false ↦ refl ];
  numbers = tt;
  reads = λ shallow. refl;
  outlined = refl;
}

pub IsItemsText-more : (later : Bool) (value : Data) (left : Items) (text rest : List ℕ) → IsTextOf value text → IsItemsText true left rest
    → IsItemsText later (item value left) (comma_if later ++ (text ++ rest))
IsItemsText-more later value left text rest is more =
    let first = print_of value text is in
    record {
      items = json.item first.json more.items;
      printed = ap₂ (λ front back. comma_if later ++ (front ++ back)) first.printed more.printed ∙ sym (print_before later first.json (items_tokens more.items));
      numbers = (first.numbers, more.numbers);
      reads = λ shallow.
          ap (option_and_then (λ d. option_map (item d) (of_items more.items))) (first.reads (omega (arith, shallow)))
          ∙ ap (option_map (item value)) (more.reads (omega (arith, shallow)));
      outlined = ap₂ json.item first.outlined more.outlined;
    }

pub IsTextOf-array : (values : Items) (text : List ℕ) → IsItemsText false values text → IsTextOf (array values) (91 ∷ text)
unfolding print_from
IsTextOf-array values text is = text_of (array values) (91 ∷ text) (record {
  json = json.array is.items;
  printed = ap (λ rest. 91 ∷ rest) is.printed;
  numbers = is.numbers;
  reads = λ shallow. ap (option_map array) (is.reads (omega (arith, shallow)));
  outlined = ap json.array is.outlined;
})

-- ---- objects

-- the text is that of the members that are left of an object after those that were found, with the closing bracket
pub record IsMembersText (later : Bool) (all found left : Members) (text : List ℕ) : Type 0 where
  pub members : json.Members
  pub printed : text ≡ print_from later (members_tokens members)
  pub numbers : MembersHaveNumbers members
  pub reads : members_depth left ≤ max_depth → of_members members found ≡ Some all
  pub outlined : blank_members members ≡ members_outline left

pub IsMembersText-end : (later : Bool) (all : Members) → IsMembersText later all all no_members (125 ∷ [])
unfolding print_from
IsMembersText-end later all = record {
  members = json.no_members;
  printed = elim later as (λ b. 125 ∷ [] ≡ print_from b (members_tokens json.no_members)) [ true ↦ refl | false ↦ refl ];
  numbers = tt;
  reads = λ shallow. refl;
  outlined = refl;
}

pub IsMembersText-more : (later : Bool) (all found : Members) (name : List ℕ) (value : Data) (left : Members) (text rest : List ℕ) → IsTextOf value text
    → IsMembersText true all (put name value found) left rest
    → IsMembersText later all found (member name value left) ((comma_if later ++ (quoted name ++ 58 ∷ [])) ++ (text ++ rest))
IsMembersText-more later all found name value left text rest is more =
    let first = print_of value text is in
    let named = comma_if later ++ (quoted name ++ 58 ∷ []) in
    record {
      members = json.member name first.json more.members;
      printed = ap₂ (λ front back. named ++ (front ++ back)) first.printed more.printed ∙ sym (print_member later name first.json (members_tokens more.members));
      numbers = (first.numbers, more.numbers);
      reads = λ shallow.
          ap (option_and_then (λ d. of_members more.members (put name d found))) (first.reads (omega (arith, shallow)))
          ∙ more.reads (omega (arith, shallow));
      outlined = ap₂ (json.member name) first.outlined more.outlined;
    }

pub IsTextOf-object : (all : Members) (text : List ℕ) → IsMembersText false all no_members all text → IsTextOf (object all) (123 ∷ text)
unfolding print_from
IsTextOf-object all text is = text_of (object all) (123 ∷ text) (record {
  json = json.object is.members;
  printed = ap (λ rest. 123 ∷ rest) is.printed;
  numbers = is.numbers;
  reads = λ shallow. ap (option_map object) (is.reads (omega (arith, shallow)));
  outlined = ap json.object is.outlined;
})

-- ---- after what has been written

-- an opening bracket
pub opened : (value : Data) (bracket : ℕ) (rest old new : List ℕ) → new ≡ old ++ bracket ∷ [] → IsTextOf value (bracket ∷ rest) → PushesText value old (new ++ rest)
opened value bracket rest old new is text = record {
  text = bracket ∷ rest;
  is_text = text;
  written = ap (λ bytes. bytes ++ rest) is ∙ append_assoc old (bracket ∷ []) rest;
}

-- a value, and what is before it
pub more : (whole : Data) (begun old front rest : List ℕ) {value : Data} {middle new : List ℕ} → middle ≡ old ++ front → (pushed : PushesText value middle new)
    → PushesText whole begun (old ++ (front ++ (pushed.text ++ rest))) → PushesText whole begun (new ++ rest)
more whole begun old front rest {new = new} before pushed ends =
    let parts : new ++ rest ≡ old ++ (front ++ (pushed.text ++ rest)) =
    ap (λ bytes. bytes ++ rest) (pushed.written ∙ ap (λ bytes. bytes ++ pushed.text) before)
    ∙ append_assoc (old ++ front) pushed.text rest ∙ append_assoc old front (pushed.text ++ rest) in
    subst (PushesText whole begun) (sym parts) ends
