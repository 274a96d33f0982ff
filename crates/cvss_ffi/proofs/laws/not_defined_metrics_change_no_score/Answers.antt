use Rattle.std.proofs.Common.{◌≡◌, ◌⊎◌, inl, inr, ℕ, Bool, true, false, List, Option, Some, None, IfSome, bytes_eq, if◌then◌else◌, refl, sym, ap, ◌∙◌, codes}
use Rattle.std.specs.Bool.{Decides}
use Rattle.std.specs.Option.{option_map, option_map_or, option_and_then}
use Rattle.std.proofs.lemmas.Slice.Eq.{bytes_eq-Decides}
use Rattle.cvss_base.specs.Version.{read}
use Rattle.cvss_ffi.specs.Defined.{if_defined}
use Rattle.cvss_vector.specs.v2.Vector.{v2}
use Rattle.cvss_vector.specs.v2.private.VectorLaws.{v2_laws}
use Rattle.cvss_vector.specs.v3.Vector.{v3}
use Rattle.cvss_vector.specs.v3.private.VectorLaws.{v3_laws}
use Rattle.cvss_vector.specs.v4.Vector.{v4}
use Rattle.cvss_vector.specs.v4.private.VectorLaws.{v4_laws}
use Rattle.cvss_ffi.proofs.laws.not_defined_metrics_change_no_score.Goals as goal

-- a value that is not defined counts as an absent one
module _ {X : Type 0} (spelling : X → List ℕ) (as_read : List ℕ → List ℕ) (one : (x y : X) → as_read (spelling x) ≡ as_read (spelling y) → x ≡ y) (undefined : List ℕ) where
  abbrev IsUndefined : Option X → Type 0
  IsUndefined value = IfSome value (λ x. spelling x ≡ undefined)

  same_value : (x : X) (p : Option X) (out : Bool) → Decides out (spelling x ≡ undefined) → option_map spelling p ≡ (if out then None else Some (spelling x)) → (Some x ≡ p) ⊎ (IsUndefined (Some x) × IsUndefined p)
  same_value x None true is_undefined held = inr (is_undefined.0 refl, tt)
  same_value x (Some y) true is_undefined held = absurd (let no : Some (spelling y) ≡ None = held in cc)
  same_value x None false defined held = absurd (let no : None ≡ Some (spelling x) = held in cc)
  same_value x (Some y) false defined held = let same : spelling x ≡ spelling y = let some : Some (spelling y) ≡ Some (spelling x) = held in cc in inl (ap Some (one x y (ap as_read same)))

  -- a value is kept, or both are not defined
  same_or_undefined : (o p : Option X) → option_map spelling p ≡ option_and_then (if_defined undefined) (option_map spelling o) → (o ≡ p) ⊎ (IsUndefined o × IsUndefined p)
  same_or_undefined None None held = inl refl
  same_or_undefined None (Some y) held = absurd (let no : Some (spelling y) ≡ None = held in cc)
  same_or_undefined (Some x) p held = same_value x p (bytes_eq (spelling x) undefined) (bytes_eq-Decides (spelling x) undefined) held

  -- the spelling of a value, where an absent one counts as not defined
  abbrev letter : Option X → List ℕ
  letter value = option_map_or spelling value undefined

  undefined_letter : (value : Option X) → IsUndefined value → letter value ≡ undefined
  undefined_letter None is = refl
  undefined_letter (Some x) is = is

  same_letter : (o p : Option X) → option_map spelling p ≡ option_and_then (if_defined undefined) (option_map spelling o) → letter o ≡ letter p
  same_letter o p held = elim (same_or_undefined o p held) [
    | inl same ↦ ap letter same
    | inr both ↦ undefined_letter o both.0 ∙ sym (undefined_letter p both.1)
  ]

pub returns-clause-v2 : goal.returns-clause-v2
returns-clause-v2 c = λ v w part. c.not_defined_weighs_as_absent.ensures v w
    (λ kind. same_or_undefined (v2.spelling kind) (read v2) (v2_laws.one_value kind) (codes "ND") (v2.value_of v kind) (v2.value_of w kind) (part.held_is kind))

pub returns-clause-v3 : goal.returns-clause-v3
returns-clause-v3 c = λ v w part. c.not_defined_weighs_as_absent-2.ensures v w
    (λ kind. same_or_undefined (v3.spelling kind) (read v3) (v3_laws.one_value kind) (codes "X") (v3.value_of v kind) (v3.value_of w kind) (part.held_is kind))

pub returns-clause-v4 : goal.returns-clause-v4
returns-clause-v4 c = λ v w part. c.not_defined_scores_as_absent.ensures v w
    (λ kind. same_letter (v4.spelling kind) (read v4) (v4_laws.one_value kind) (codes "X") (v4.value_of v kind) (v4.value_of w kind) (part.held_is kind))
