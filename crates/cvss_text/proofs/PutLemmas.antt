-- Filling the field of one metric puts its value into the vector.
use Rattle.std.proofs.Common.{◌≡◌, ◌⊎◌, inl, inr, ℕ, Bool, true, false, if◌then◌else◌, List, Option, Some, None, option_map, Result, refl, ap, bytes_eq}
use Rattle.std.proofs.lemmas.Option.{same_Some}
use Rattle.std.proofs.lemmas.Result.{on_ok_weaker}
use Rattle.std.proofs.lemmas.Slice.Eq.{bytes_eq-Decides}
use Rattle.cvss_base.specs.Version.{Version, held, read, reading}
use Rattle.cvss_text.specs.private.Walk.{VersionLaws, IsFilled, IsPut, elsewhere}
use Rattle.cvss_text.specs.declared.walk.ComponentError.{ComponentError}
use Rattle.cvss_text.proofs.LawLemmas.{at_each, names_differ}

module _ {V K : Type 0} (version : Version V K) (version_laws : VersionLaws version) where
  -- values that are spelled alike are one
  one_held : (kind : K) (one other : Option (version.Value kind)) → option_map (version.spelling kind) one ≡ option_map (version.spelling kind) other → one ≡ other
  one_held kind None None same = refl
  one_held kind (Some x) (Some y) same = ap Some (version_laws.one_value kind x y (ap (read version) (same_Some _ _ same)))
  one_held kind _ _ same = absurd cc

  other_or_here : (old new : V) (here other : K) (same : Bool) → bytes_eq (version.name other) (version.name here) ≡ same → (if same then None else held version new other) ≡ (if same then None else held version old other) → (other ≡ here) ⊎ (version.value_of new other ≡ version.value_of old other)
  other_or_here old new here other true named _ = inl (names_differ version version_laws other here ((bytes_eq-Decides _ _).0 named))
  other_or_here old new here other false _ kept = inr (one_held other _ _ kept)

  -- the field of this metric is filled, and all else is kept
  pub put_at : {kind here : K} → kind ≡ here → {old new : V} {text : List ℕ} {answer : Result (Unit {0}) ComponentError} → IsFilled (reading version here) (version.value_of old here) text answer (version.value_of new here) → elsewhere version here new ≡ elsewhere version here old → IsPut version old kind text answer new
  put_at {here = here} is {old} {new} {text} {answer} filled kept =
      let others : (other : K) → (other ≡ here) ⊎ (version.value_of new other ≡ version.value_of old other) = λ other. other_or_here old new here other (bytes_eq (version.name other) (version.name here)) refl (at_each version version_laws _ _ (ap (λ both. both.1) kept) other) in
      rw is (record { put = on_ok_weaker answer (λ fills. record { fills = fills; others = others; front = ap (λ both. both.0) kept }) filled.filled; component_error = filled.component_error })
