-- The values of fields, and the fields of values.
use Rattle.std.proofs.Common.{◌≡◌, ◌≢◌, ℕ, zero, suc, ◌+◌, ◌<◌, ◌≤◌, ◌||◌, All, false, eqb, List, [], ◌∷◌, ◌++◌, flat_map, length, take, get_or, refl, sym, ap, ◌∙◌, subst, arith, inl, inr, append_assoc, if◌then◌else◌, is_ok, Result, Ok, Err, OnOk}
use Rattle.std.specs.List.{list_any}
use Rattle.std.proofs.lemmas.Bool.{cases_Bool, cond-true, cond-false, eqb-false, ne_eqb, or_parts}
use Rattle.std.proofs.lemmas.Bool.Decides.{eqb_tells}
use Rattle.std.proofs.lemmas.List.{take_all}
use Rattle.std.proofs.lemmas.List.Elements.{All-head, All-tail}
use Rattle.cvss_csv.specs.Fields.{comma, fields, line_feed, next, quote, unquoted, value}
use Rattle.cvss_csv.specs.Quoting.{doubled, field_of, wants_quotes}
use Rattle.cvss_csv.specs.declared.state.State.TheVariants.{Start, Quoted, Closing}
use Rattle.cvss_csv.specs.private.Cutting.{IsWithin}
use Rattle.cvss_csv.specs.private.Values.{after_quote}
use Rattle.cvss_csv.proofs.CuttingLemmas.{cut_whole, outside_run, quiet_state, within_append}

-- a byte that is no quote stays
unquoted_byte : (x : ℕ) (xs : List ℕ) → x ≢ quote → unquoted (x ∷ xs) ≡ x ∷ unquoted xs
unquoted_byte x [] fails = cond-false (eqb x quote) [] (x ∷ []) (ne_eqb x quote fails)
unquoted_byte x (y ∷ xs) fails = cond-false (eqb x quote) _ (x ∷ unquoted (y ∷ xs)) (ne_eqb x quote fails)

-- what begins with a quote
unquoted_quote : (xs : List ℕ) → unquoted (quote ∷ xs) ≡ after_quote xs
unquoted_quote [] = refl
unquoted_quote (y ∷ xs) = refl

-- bytes before the first quote stay
pub unquoted_run : (run rest : List ℕ) → All (λ b. b ≢ quote) run → unquoted (run ++ quote ∷ rest) ≡ run ++ after_quote rest
unquoted_run [] rest none = unquoted_quote rest
unquoted_run (x ∷ run) rest none =
    unquoted_byte x (run ++ quote ∷ rest) (All-head (λ b. b ≢ quote) x run none)
    ∙ ap (λ ys. x ∷ ys) (unquoted_run run rest (All-tail (λ b. b ≢ quote) x run none))

-- bytes without a quote stay
pub unquoted_none : (xs : List ℕ) → All (λ b. b ≢ quote) xs → unquoted xs ≡ xs
unquoted_none [] none = refl
unquoted_none (x ∷ xs) none =
    unquoted_byte x xs (All-head (λ b. b ≢ quote) x xs none) ∙ ap (λ ys. x ∷ ys) (unquoted_none xs (All-tail (λ b. b ≢ quote) x xs none))

-- what is appended, once it is
pub appended : {T E : Type 0} (result : Result T E) (new longer old : List ℕ) → new ≡ (if is_ok result then longer else old) → OnOk result (new ≡ longer)
appended (Ok value) new longer old is = is
appended (Err error) new longer old is = tt

-- what is decoded of bytes up to their first quote, and of what follows it
pub decode_step : (text rest all run following longer tail : List ℕ) → text ++ unquoted rest ≡ all → All (λ b. b ≢ quote) run → rest ≡ run ++ quote ∷ following
    → longer ≡ text ++ run → after_quote following ≡ tail → longer ++ tail ≡ all
decode_step text rest all run following longer tail before none is added after =
    ap (λ ys. ys ++ tail) added ∙ append_assoc text run tail ∙ ap (λ ys. text ++ (run ++ ys)) (sym after)
    ∙ ap (λ ys. text ++ ys) (sym (ap unquoted is ∙ unquoted_run run following none)) ∙ before

-- bytes of which only the last may be a quote are the value before that
pub as_is : (xs : List ℕ) (n : ℕ) → ((k : ℕ) → k < n → get_or xs k 0 ≢ quote) → (n < length xs → get_or xs n 0 ≡ quote) → n ≤ length xs → length xs ≤ n + 1
    → take n xs ≡ unquoted xs
as_is [] zero none found within short = refl
as_is [] (suc n) none found within short = refl
as_is (x ∷ []) zero none found within short = sym (ap (λ b. unquoted (b ∷ [])) (found (omega arith)))
as_is (x ∷ y ∷ xs) zero none found within short = absurd (omega (arith, short))
as_is (x ∷ xs) (suc n) none found within short =
    ap (λ ys. x ∷ ys) (as_is xs n (λ k below. none (suc k) (omega (arith, below))) (λ below. found (omega (arith, below))) (omega (arith, within)) (omega (arith, short)))
    ∙ sym (unquoted_byte x xs (none 0 (omega arith)))

-- the value of a text in quotes is the text
unquoted_doubled : (text : List ℕ) → unquoted (flat_map doubled text ++ quote ∷ []) ≡ text
unquoted_doubled [] = refl
unquoted_doubled (x ∷ text) = elim (eqb_tells x quote) [
  | inl same ↦
      ap (λ ys. unquoted ((ys ++ flat_map doubled text) ++ quote ∷ [])) (cond-true (eqb x quote) (quote ∷ quote ∷ []) (x ∷ []) same.0)
      ∙ ap (λ ys. quote ∷ ys) (unquoted_doubled text) ∙ ap (λ b. b ∷ text) (sym same.1)
  | inr other ↦
      ap (λ ys. unquoted ((ys ++ flat_map doubled text) ++ quote ∷ [])) (cond-false (eqb x quote) (quote ∷ quote ∷ []) (x ∷ []) other.0)
      ∙ unquoted_byte x (flat_map doubled text ++ quote ∷ []) other.1 ∙ ap (λ ys. x ∷ ys) (unquoted_doubled text)
]

-- a text that wants no quotes begins with none
value_plain : (text : List ℕ) → list_any wants_quotes text ≡ false → value text ≡ text
value_plain [] none = refl
value_plain (x ∷ xs) none =
    let first = (or_parts (wants_quotes x) (list_any wants_quotes xs) none).0 in
    cond-false (eqb x quote) (unquoted xs) (x ∷ xs) (or_parts (eqb x quote) (eqb x comma || (eqb x line_feed || eqb x 13)) first).0

-- the value of the field that is written of a text is the text
pub value_of_field : (text : List ℕ) → value (field_of text) ≡ text
value_of_field text = elim (cases_Bool (list_any wants_quotes text)) [
  | inl holds ↦
      ap value (cond-true (list_any wants_quotes text) (quote ∷ flat_map doubled text ++ quote ∷ []) text holds) ∙ unquoted_doubled text
  | inr fails ↦
      ap value (cond-false (list_any wants_quotes text) (quote ∷ flat_map doubled text ++ quote ∷ []) text fails) ∙ value_plain text fails
]

-- a text in quotes is within its field to the end
within_doubled : (text : List ℕ) → IsWithin comma Quoted (flat_map doubled text ++ quote ∷ []) Closing
within_doubled [] = record { none = refl; leads = refl }
within_doubled (x ∷ text) =
    let more = within_doubled text in
    elim (eqb_tells x quote) [
      | inl same ↦ subst (λ ys. IsWithin comma Quoted ((ys ++ flat_map doubled text) ++ quote ∷ []) Closing) (sym (cond-true (eqb x quote) (quote ∷ quote ∷ []) (x ∷ []) same.0))
          (record { none = more.none; leads = more.leads })
      | inr other ↦
          let stays : next Quoted x ≡ Quoted = cond-false (eqb x quote) Closing Quoted other.0 in
          let one : IsWithin comma Quoted (x ∷ []) Quoted = record { none = refl; leads = stays } in
          subst (λ ys. IsWithin comma Quoted ((ys ++ flat_map doubled text) ++ quote ∷ []) Closing) (sym (cond-false (eqb x quote) (quote ∷ quote ∷ []) (x ∷ []) other.0))
          (within_append comma Quoted Quoted Closing (x ∷ []) (flat_map doubled text ++ quote ∷ []) one more)
    ]

-- bytes of which none wants quotes
none_wants : (text : List ℕ) (k : ℕ) → list_any wants_quotes text ≡ false → k < length text → wants_quotes (get_or text k 0) ≡ false
none_wants [] k none below = absurd (omega (arith, below))
none_wants (x ∷ xs) zero none below = (or_parts (wants_quotes x) (list_any wants_quotes xs) none).0
none_wants (x ∷ xs) (suc k) none below = none_wants xs k (or_parts (wants_quotes x) (list_any wants_quotes xs) none).1 (omega (arith, below))

-- what is written of a text is one field
pub field_of_one : (text : List ℕ) → fields (field_of text) ≡ field_of text ∷ []
field_of_one text = elim (cases_Bool (list_any wants_quotes text)) [
  | inl holds ↦
      subst (λ (field : List ℕ). fields field ≡ field ∷ []) (sym (cond-true (list_any wants_quotes text) (quote ∷ flat_map doubled text ++ quote ∷ []) text holds))
      (cut_whole comma Start Closing (quote ∷ flat_map doubled text ++ quote ∷ []) (in_quotes (within_doubled text)))
  | inr fails ↦
      subst (λ (field : List ℕ). fields field ≡ field ∷ []) (sym (cond-false (list_any wants_quotes text) (quote ∷ flat_map doubled text ++ quote ∷ []) text fails))
      (cut_whole comma Start _ text (as_they_are fails))
] where
  in_quotes : IsWithin comma Quoted (flat_map doubled text ++ quote ∷ []) Closing → IsWithin comma Start (quote ∷ flat_map doubled text ++ quote ∷ []) Closing
  in_quotes within = record { none = within.none; leads = within.leads }

  no_one : (k : ℕ) → list_any wants_quotes text ≡ false → k < length text → (get_or text k 0 ≢ quote) × (get_or text k 0 ≢ comma)
  no_one k none below =
      let byte = get_or text k 0 in
      let parts = or_parts (eqb byte quote) (eqb byte comma || (eqb byte line_feed || eqb byte 13)) (none_wants text k none below) in
      (eqb-false byte quote parts.0, eqb-false byte comma (or_parts (eqb byte comma) (eqb byte line_feed || eqb byte 13) parts.1).0)

  as_they_are : list_any wants_quotes text ≡ false → IsWithin comma Start text (quiet_state Start text)
  as_they_are none = subst (λ ys. IsWithin comma Start ys (quiet_state Start ys)) (take_all (length text) text (omega arith))
      (outside_run comma Start text (length text) refl (λ k below. (no_one k none below).0) (λ k below. (no_one k none below).1))
