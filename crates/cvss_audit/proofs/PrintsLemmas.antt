-- A text of a value, and the JSON that it is printed from.
use Rattle.std.proofs.Common.{◌≡◌, ℕ, ◌≤◌, Bool, true, false, List, [], ◌∷◌, ◌++◌, fold, Some, option_and_then, refl, sym, ap, ap₂, ◌∙◌, arith, append_assoc, append-nil}
use Rattle.std.proofs.lemmas.List.Sums.{fold-append}
use Rattle.json.proofs.Numbered.{ArePrintableOrBad-tokens, value-HasNumbers}
use Rattle.json.proofs.Printed.Tokens.{print_from-append, tokens-print}
use Rattle.json.proofs.Printed.Trees.{ArePrintable-json_tokens, value-json_tokens}
use Rattle.json.specs.Json as json
use Rattle.json.specs.Lex.{tokens}
use Rattle.json.specs.Print.{ends, print, print_from, quoted}
use Rattle.json.specs.Token.{Token, key}
use Rattle.json.specs.Tree as tree
use Rattle.json.specs.Tree.{HasNumbers, items_tokens, json_tokens, members_tokens}
use Rattle.serde_json.specs.Data.{Data, string, array, object, Items, no_items, item, Members, no_members, member, depth, items_depth, members_depth}
use Rattle.serde_json.specs.Read.{max_depth, of_json, read}
use Rattle.serde_json.specs.Written.{blank, blank_items, blank_members, comma_if, items_outline, members_outline, outline}
use Rattle.cvss_audit.specs.Texts.{IsTextOf}
use Rattle.cvss_audit.proofs.OneLineLemmas.{one_line}

-- ---- a value's JSON nests as deep as the value

mutual
  depth-blank : (j : json.Json) → tree.depth (blank j) ≡ tree.depth j
  depth-blank (json.array js) = omega (arith, depth-blank_items js)
  depth-blank (json.object ms) = omega (arith, depth-blank_members ms)
  depth-blank _ = refl

  depth-blank_items : (js : json.Items) → tree.items_depth (blank_items js) ≡ tree.items_depth js
  depth-blank_items json.no_items = refl
  depth-blank_items (json.item j js) = omega (arith, depth-blank j, depth-blank_items js)

  depth-blank_members : (ms : json.Members) → tree.members_depth (blank_members ms) ≡ tree.members_depth ms
  depth-blank_members json.no_members = refl
  depth-blank_members (json.member k j ms) = omega (arith, depth-blank j, depth-blank_members ms)

mutual
  depth-outline : (d : Data) → tree.depth (outline d) ≡ depth d
  depth-outline (array ds) = omega (arith, depth-items_outline ds)
  depth-outline (object ms) = omega (arith, depth-members_outline ms)
  depth-outline _ = refl

  depth-items_outline : (ds : Items) → tree.items_depth (items_outline ds) ≡ items_depth ds
  depth-items_outline no_items = refl
  depth-items_outline (item d ds) = omega (arith, depth-outline d, depth-items_outline ds)

  depth-members_outline : (ms : Members) → tree.members_depth (members_outline ms) ≡ members_depth ms
  depth-members_outline no_members = refl
  depth-members_outline (member k d ms) = omega (arith, depth-outline d, depth-members_outline ms)

same_depth : (j : json.Json) (d : Data) → blank j ≡ outline d → tree.depth j ≡ depth d
same_depth j d same = sym (depth-blank j) ∙ ap tree.depth same ∙ depth-outline d

-- ---- a text that is printed from JSON

-- the text is printed from JSON that reads as the value
pub record IsPrintOf (value : Data) (text : List ℕ) : Type 0 where
  pub json : json.Json
  pub printed : text ≡ print (json_tokens json)
  pub numbers : HasNumbers json
  pub reads : depth value ≤ max_depth → of_json json ≡ Some value
  pub outlined : blank json ≡ outline value

numbers_of : (text : List ℕ) (j : json.Json) → tokens text ≡ json_tokens j → HasNumbers j
numbers_of text j are =
    value-HasNumbers (tree.depth j) (tokens text) [] j (ArePrintableOrBad-tokens text)
    (ap (json.value (tree.depth j)) (are ∙ sym (append-nil (json_tokens j))) ∙ value-json_tokens j (tree.depth j) [] (omega arith))

read_as : (text : List ℕ) (j : json.Json) → tokens text ≡ json_tokens j → tree.depth j ≤ max_depth → read text ≡ of_json j
read_as text j are shallow =
    ap (λ o. option_and_then of_json (option_and_then (λ p. json.if_last p.0 p.1) o))
    (ap (json.value max_depth) (are ∙ sym (append-nil (json_tokens j))) ∙ value-json_tokens j max_depth [] shallow)

pub print_of : (value : Data) (text : List ℕ) → IsTextOf value text → IsPrintOf value text
print_of value text is =
    let j = is.in_order.0 in
    let are = is.in_order.1 in
    record {
      json = j;
      printed = is.compact ∙ ap print are;
      numbers = numbers_of text j are;
      reads = λ shallow. sym (read_as text j are (omega (arith, same_depth j value is.in_order.2, shallow))) ∙ is.reads shallow;
      outlined = is.in_order.2;
    }

pub text_of : (value : Data) (text : List ℕ) → IsPrintOf value text → IsTextOf value text
text_of value text is =
    let are = ap tokens is.printed ∙ tokens-print (json_tokens is.json) (ArePrintable-json_tokens is.json is.numbers) in
    let compact = is.printed ∙ ap print (sym are) in
    record {
      reads = λ shallow. read_as text is.json are (omega (arith, same_depth is.json value is.outlined, shallow)) ∙ is.reads shallow;
      in_order = (is.json, are, is.outlined);
      compact = compact;
      one_line = one_line text compact;
    }

-- what is printed for a string
string_print : (s : List ℕ) (j : json.Json) → blank j ≡ json.string s → print (json_tokens j) ≡ quoted s
unfolding print_from
string_print s (json.string x) same = append-nil (quoted x) ∙ cc
string_print s json.null same = absurd (cc)
string_print s (json.boolean b) same = absurd (cc)
string_print s (json.number x) same = absurd (cc)
string_print s (json.array js) same = absurd (cc)
string_print s (json.object ms) same = absurd (cc)

pub string_quoted : (s text : List ℕ) → IsTextOf (string s) text → text ≡ quoted s
string_quoted s text is = is.compact ∙ ap print is.in_order.1 ∙ string_print s is.in_order.0 is.in_order.2

-- ---- how what is printed for a value fits among others

abbrev ended : Bool → List Token → Bool
ended = fold (λ _ t. ends t)

mutual
  ended-json : (b : Bool) (j : json.Json) → ended b (json_tokens j) ≡ true
  ended-json b (json.array js) = ended-items false js
  ended-json b (json.object ms) = ended-members false ms
  ended-json b _ = refl

  ended-items : (b : Bool) (js : json.Items) → ended b (items_tokens js) ≡ true
  ended-items b json.no_items = refl
  ended-items b (json.item j js) = fold-append (λ _ t. ends t) b (json_tokens j) (items_tokens js) ∙ ended-items (ended b (json_tokens j)) js

  ended-members : (b : Bool) (ms : json.Members) → ended b (members_tokens ms) ≡ true
  ended-members b json.no_members = refl
  ended-members b (json.member k j ms) =
      fold-append (λ _ t. ends t) false (json_tokens j) (members_tokens ms) ∙ ended-members (ended false (json_tokens j)) ms

print_later : (later : Bool) (j : json.Json) → print_from later (json_tokens j) ≡ comma_if later ++ print (json_tokens j)
unfolding print_from
print_later true json.null = refl
print_later true _ = refl
print_later false j = refl

pub print_before : (later : Bool) (j : json.Json) (after : List Token)
    → print_from later (json_tokens j ++ after) ≡ comma_if later ++ (print (json_tokens j) ++ print_from true after)
print_before later j after =
    print_from-append later (json_tokens j) after
    ∙ ap₂ (λ front b. front ++ print_from b after) (print_later later j) (ended-json later j)
    ∙ append_assoc (comma_if later) (print (json_tokens j)) (print_from true after)

pub print_member : (later : Bool) (k : List ℕ) (j : json.Json) (after : List Token)
    → print_from later (key k ∷ (json_tokens j ++ after)) ≡ (comma_if later ++ (quoted k ++ 58 ∷ [])) ++ (print (json_tokens j) ++ print_from true after)
unfolding print_from
print_member true k j after = ap (λ back. 44 ∷ ((quoted k ++ 58 ∷ []) ++ back)) (print_before false j after)
print_member false k j after = ap (λ back. (quoted k ++ 58 ∷ []) ++ back) (print_before false j after)
