-- How a value is found by its spelling.
use Rattle.std.proofs.Common.{◌≡◌, [], ◌∷◌, ℕ, zero, suc, ◌+◌, ◌<◌, List, Bool, true, false, cond, ltb, not, ◌&&◌, Some, None, map, slice_get, unwrap_or, length, get_or, refl, sym, ap, ◌∙◌, arith, lt-ltb, ltb-true}
use Rattle.std.specs.List.{list_any, position_from, position_or_len}
use Rattle.std.specs.Str.{str_eq_ignore_ascii_case, str_to_ascii_lowercase}
use Rattle.std.proofs.lemmas.Bool.{and_parts, false_from_ne_true, not-true}
use Rattle.std.proofs.lemmas.Iterator.Adapters.{position_from-zero}
use Rattle.std.proofs.lemmas.List.Folds.{list_any_at}
use Rattle.std.proofs.lemmas.List.Sums.{passes_at_first, position_or_len_is}
use Rattle.std.proofs.lemmas.Option.{none-some, same_Some, slice_get-get_or}
use Rattle.std.proofs.lemmas.Slice.Eq.{bytes_eq-Decides}

-- whether no two of the spellings are alike except for the case of their letters
abbrev pub differ : List (List ℕ) → Bool
differ [] = true
differ (spelling ∷ others) = not (list_any (str_eq_ignore_ascii_case spelling) others) && differ others

differ_at : (texts : List (List ℕ)) (i j : ℕ) → differ texts ≡ true → i < j → j < length texts
    → str_eq_ignore_ascii_case (get_or texts i []) (get_or texts j []) ≡ false
differ_at (text ∷ texts) zero (suc j) differs before within = false_from_ne_true _ (λ alike.
    let found = list_any_at (str_eq_ignore_ascii_case text) texts j [] (omega arith) alike in
    let none = not-true (list_any (str_eq_ignore_ascii_case text) texts) (and_parts _ (differ texts) differs).0 in cc)
differ_at (text ∷ texts) (suc i) (suc j) differs before within = differ_at texts i j (and_parts (not (list_any (str_eq_ignore_ascii_case text) texts)) (differ texts) differs).1 (omega arith) (omega arith)
differ_at _ _ _ differs before within = absurd (omega arith)

some_if : (test : Bool) (place found : ℕ) → Some found ≡ cond test (Some place) None → (test ≡ true) × (found ≡ place)
some_if true place found is = (refl, same_Some found place is)
some_if false place found is = absurd (none-some found (sym is))

-- the text at the place that is found passes the test
pub found_place : (test : List ℕ → Bool) (texts : List (List ℕ)) (place : ℕ) → Some place ≡ position_from test 0 texts → test (unwrap_or (slice_get texts place) []) ≡ true
found_place test texts place is =
    let first = position_or_len test texts in
    let found = some_if (ltb first (length texts)) first place (is ∙ sym (position_from-zero test texts)) in
    let within : first < length texts = ltb-true _ _ found.0 in
    rw (found.1, slice_get-get_or texts first [] within) (passes_at_first test texts [] within)

-- where no two texts are alike, the place is found of one that passes a test which only texts alike pass
pub first_place : (test : List ℕ → Bool) (texts : List (List ℕ)) (place : ℕ) → differ texts ≡ true → place < length texts
    → test (unwrap_or (slice_get texts place) []) ≡ true
    → ((text : List ℕ) → test text ≡ true → str_to_ascii_lowercase text ≡ str_to_ascii_lowercase (unwrap_or (slice_get texts place) []))
    → position_from test 0 texts ≡ Some place
first_place test texts place differs within passes alike =
    let here : unwrap_or (slice_get texts place) [] ≡ get_or texts place [] = ap (λ text. unwrap_or text []) (slice_get-get_or texts place [] within) in
    let first : position_or_len test texts ≡ place = position_or_len_is test texts place [] (omega arith)
    (λ before below. false_from_ne_true _ (λ passed.
    let fails = differ_at texts before place differs below within in
    let same = (bytes_eq-Decides _ _).1 (alike (get_or texts before []) passed ∙ ap str_to_ascii_lowercase here) in cc))
    (λ _. rw (← here) passes) in
    sym (position_from-zero test texts) ∙ rw (first, lt-ltb place (length texts) within) refl

-- the place of an item is that of what it is mapped to
pub position-map : {A B : Type 0} (f : A → B) (test : B → Bool) (place : ℕ) (items : List A) → position_from (λ x. test (f x)) place items ≡ position_from test place (map f items)
position-map f test place [] = refl
position-map f test place (item ∷ items) = ap (cond (test (f item)) (Some place)) (position-map f test (place + 1) items)
