-- The first field with a value, as it comes nearer.
use Rattle.std.proofs.Common.{◌≡◌, ℕ, suc, ◌+◌, ◌≤◌, Bool, true, false, List, [], ◌∷◌, None, Some, Option, arith, ap, bytes_eq, inl, inr, length, option_map, refl, sym, ◌∙◌}
use Rattle.std.specs.List.{onto_first}
use Rattle.std.proofs.lemmas.Bool.{cases_Bool, cond-true, cond-false}
use Rattle.cvss_csv.specs.Layouts.{index_of}
use Rattle.cvss_csv.specs.Fields.{cut, is_end, next, value}
use Rattle.cvss_csv.specs.declared.state.State.{State}
use Rattle.cvss_csv.specs.declared.state.State.TheVariants.{Start}

-- the index, where this many fields are before these
abbrev pub index_after : ℕ → List ℕ → List (List ℕ) → Option ℕ
index_after at name left = option_map (λ index. at + index) (index_of name left)

pub index_start : (name : List ℕ) (all left : List (List ℕ)) → left ≡ all → index_after 0 name left ≡ index_of name all
index_start name all left is = ap (index_after 0 name) is ∙ plain (index_of name all) where
  plain : (found : Option ℕ) → option_map (λ index. 0 + index) found ≡ found
  plain None = refl
  plain (Some index) = ap Some (omega arith)

module _ (at : ℕ) (name : List ℕ) (left : List (List ℕ)) (target : Option ℕ) (before : index_after at name left ≡ target) where
  pub index_here : (field : List ℕ) (more : List (List ℕ)) (has : Bool) → left ≡ field ∷ more → has ≡ bytes_eq (value field) name → has ≡ true → Some at ≡ target
  index_here field more has is tests holds =
      let here : at ≡ at + 0 = omega arith in
      ap Some here
      ∙ ap (option_map (λ index. at + index)) (sym (cond-true (bytes_eq (value field) name) (Some 0) (option_map suc (index_of name more)) (sym tests ∙ holds)))
      ∙ ap (index_after at name) (sym is) ∙ before

  pub index_later : (field : List ℕ) (more : List (List ℕ)) (has : Bool) → left ≡ field ∷ more → has ≡ bytes_eq (value field) name → has ≡ false → index_after (at + 1) name more ≡ target
  index_later field more has is tests fails =
      moved (index_of name more)
      ∙ ap (option_map (λ index. at + index)) (sym (cond-false (bytes_eq (value field) name) (Some 0) (option_map suc (index_of name more)) (sym tests ∙ fails)))
      ∙ ap (index_after at name) (sym is) ∙ before where
        moved : (found : Option ℕ) → option_map (λ index. (at + 1) + index) found ≡ option_map (λ index. at + index) (option_map suc found)
        moved None = refl
        moved (Some index) = ap Some (omega arith)

  pub index_none : left ≡ [] → target ≡ None
  index_none is = sym before ∙ ap (index_after at name) is

-- there are no more pieces than bytes, and one
pub some_pieces : (d : ℕ) (p : State) (xs : List ℕ) → length (cut d p xs) ≤ length xs + 1
some_pieces d p [] = omega arith
some_pieces d p (x ∷ xs) = elim (cases_Bool (is_end d p x)) [
  | inl holds ↦ omega (arith, some_pieces d Start xs, ap (length {A = List ℕ}) (cond-true (is_end d p x) ([] ∷ cut d Start xs) (onto_first x (cut d (next p x) xs)) holds))
  | inr fails ↦
      omega (arith, some_pieces d (next p x) xs, onto_keeps x (cut d (next p x) xs), ap (length {A = List ℕ}) (cond-false (is_end d p x) ([] ∷ cut d Start xs) (onto_first x (cut d (next p x) xs)) fails))
] where
  onto_keeps : (x : ℕ) (ps : List (List ℕ)) → length (onto_first x ps) ≤ length ps + 1
  onto_keeps x [] = omega arith
  onto_keeps x (piece ∷ ps) = omega arith
