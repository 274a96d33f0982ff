-- What overrides set in turn, and a vector with their metrics.
use Rattle.std.proofs.Common.{◌≡◌, ℕ, List, [], ◌∷◌, ◌++◌, All, Option, None, Some, IsSome, refl, sym, ap, ◌∙◌, subst, append_assoc, ◌<◌, ◌+◌, length, take, get_or}
use Rattle.std.proofs.lemmas.List.Elements.{All-get_or, All-more, All-nil, All-push}
use Rattle.std.proofs.lemmas.List.{take_more}
use Rattle.std.specs.Option.{option_or}
use Rattle.cvss_base.specs.Version.{Version, AreComponentsOf, IsComplete}
use Rattle.cvss_text.proofs.DenotesLemmas.{values_same}
use Rattle.cvss_text.proofs.SettingLemmas.{right_held}
use Rattle.cvss_text.specs.Setting.{IsFirstWrong, components_in}
use Rattle.cvss_text.specs.private.Walk.{VersionLaws}
use Rattle.cvss_base.specs.Rejection.{Rejection}
use Rattle.cvss_triage.specs.Overrides.{AreOwn, Gives, HasOwn, HoldsForSome, HoldsIn, IsFor, IsOwnValue, SetsNot}
use Rattle.cvss_triage.specs.declared.overrides.Family.{Family}
use Rattle.cvss_triage.specs.declared.overrides.Override.{Override}
use Rattle.cvss_triage.specs.declared.own_metrics.OwnMetrics.{OwnMetrics}
use Rattle.cvss_triage.specs.private.Steps.{AreOwnMetrics}
use Rattle.cvss_base.specs.declared.v4.MetricType.{MetricType}
use Rattle.cvss_base.specs.declared.v4.MetricType.TheVariants as metric
use Rattle.cvss_vector.specs.v4.Vector.{v4}
use Rattle.cvss_vector.specs.declared.v4.vector.Vector.{Vector as VectorV4}
use Rattle.cvss_vector.specs.Setting.{IsOf}
use Rattle.cvss_vector.specs.declared.vector.Cvss.{Cvss}

module _ {V K : Type 0} (version : Version V K) (family : Family) where
  -- no override sets a metric
  pub own_none : AreOwn version family [] (λ kind. None)
  own_none kind = All-nil (SetsNot version family kind)

  -- the value of a metric is as it was after an override that does not set it
  value_kept : (before : List Override) (it : Override) (kind : K) (value : Option (version.Value kind)) → SetsNot version family kind it → IsOwnValue version family before kind value → IsOwnValue version family (before ++ it ∷ []) kind value
  value_kept before it kind None not is = All-push (SetsNot version family kind) before it is not
  value_kept before it kind (Some value) not is = record {
    earlier = is.earlier;
    last = is.last;
    later = is.later ++ it ∷ [];
    are = ap (λ all. all ++ it ∷ []) is.are ∙ append_assoc is.earlier (is.last ∷ is.later) (it ∷ []);
    sets = is.sets;
    none_later = All-push (SetsNot version family kind) is.later it is.none_later not;
  }

  -- an override that does not hold for the family sets none
  pub own_kept : (before : List Override) (it : Override) (own : (kind : K) → Option (version.Value kind)) → ¬ (HoldsIn version family it) → AreOwn version family before own → AreOwn version family (before ++ it ∷ []) own
  own_kept before it own not are kind = value_kept before it kind (own kind) (λ value sets. not (record { given = sets.given; gives = sets.gives })) (are kind)

  pub holds_by : (it : Override) (given : V) → Gives version family it given → HoldsIn version family it
  holds_by it given gives = record { given = given; gives = gives }

  -- an override holds that is for the family and whose components are those of a vector, and only such a one
  pub gives_by : (it : Override) (given : V) (parts : List (List ℕ)) → parts ≡ components_in it.metrics.now → IsFor it.family family → AreComponentsOf version parts given → Gives version family it given
  gives_by it given parts same allowed components = record { allowed = allowed; components = subst (λ each. AreComponentsOf version each given) same components }

  pub wrong_not : VersionLaws version → (it : Override) (parts : List (List ℕ)) (index : ℕ) (reason : Rejection K) → parts ≡ components_in it.metrics.now → IsFirstWrong version parts index reason → ¬ (HoldsIn version family it)
  wrong_not version_laws it parts index reason same wrong holds =
      right_held version version_laws holds.given parts index (subst (λ each. AreComponentsOf version each holds.given) (sym same) holds.gives.components) wrong.within reason wrong.is

  -- own metrics are those of every function with the same values
  pub own_same : (overrides : List Override) (own other : (kind : K) → Option (version.Value kind)) → ((kind : K) → other kind ≡ own kind) → AreOwn version family overrides own → AreOwn version family overrides other
  own_same overrides own other same are kind = subst (IsOwnValue version family overrides kind) (sym (same kind)) (are kind)

  pub has_own : (overrides : List Override) (own : (kind : K) → Option (version.Value kind)) (v new : V) → AreOwn version family overrides own → ((kind : K) → version.value_of new kind ≡ option_or (own kind) (version.value_of v kind)) → version.front new ≡ version.front v → HasOwn version family overrides v new
  has_own overrides own v new are values front = record { own = own; are_own = are; values = values; front_is = front }

  -- an override sets what it gives, and leaves what it does not give
  module _ (version_laws : VersionLaws version) (before : List Override) (it : Override) (given : V) (gives : Gives version family it given) where
    value_set : (kind : K) (value old : Option (version.Value kind)) → version.value_of given kind ≡ value → IsOwnValue version family before kind old → IsOwnValue version family (before ++ it ∷ []) kind (option_or value old)
    value_set kind (Some value) old is own = record {
      earlier = before;
      last = it;
      later = [];
      are = refl;
      sets = record { given = given; gives = gives; value_is = is };
      none_later = All-nil (SetsNot version family kind);
    }
    value_set kind None old is own = value_kept before it kind old (λ value sets.
        let same = values_same version version_laws sets.given given (components_in it.metrics.now) sets.gives.components gives.components kind in
        absurd (let no = sym sets.value_is ∙ same ∙ is in cc)) own

    pub own_set : (old new : (kind : K) → Option (version.Value kind)) → ((kind : K) → new kind ≡ option_or (version.value_of given kind) (old kind)) → AreOwn version family before old → AreOwn version family (before ++ it ∷ []) new
    own_set old new values are kind =
        subst (IsOwnValue version family (before ++ it ∷ []) kind) (sym (values kind)) (value_set kind (version.value_of given kind) (old kind) refl (are kind))

-- an option, or another, has a value where the other has
or_some : {X : Type 0} (one other : Option X) → IsSome other → IsSome (option_or one other)
or_some None other some = some
or_some (Some value) other some = refl

-- a complete vector stays complete
pub complete_with : {V K : Type 0} (version : Version V K) (v new : V) (own : (kind : K) → Option (version.Value kind)) → ((kind : K) → version.value_of new kind ≡ option_or (own kind) (version.value_of v kind)) → IsComplete version v → IsComplete version new
complete_with version v new own values complete = record {
  present = λ kind mandatory. subst IsSome (sym (values kind)) (or_some (own kind) (version.value_of v kind) (complete.present kind mandatory));
}

pub in_any : {V : Type 0} (wrap : V → Cvss) (Holds : V → Type 0) (own : V) → Holds own → IsOf wrap Holds (wrap own)
in_any wrap Holds own holds = record { own = own; holds = holds; is = refl }

-- one override more
pub own_more : (overrides : List Override) (index : ℕ) (d : Override) (old new : OwnMetrics) → index < length overrides → All HoldsForSome (take index overrides) × AreOwnMetrics (take index overrides) old → HoldsForSome (get_or overrides index d)
    → ((before : List Override) → AreOwnMetrics before old → AreOwnMetrics (before ++ get_or overrides index d ∷ []) new)
    → All HoldsForSome (take (index + 1) overrides) × AreOwnMetrics (take (index + 1) overrides) new
own_more overrides index d old new below are holds set =
    (All-more HoldsForSome overrides index d below are.0 holds, subst (λ taken. AreOwnMetrics taken new) (sym (take_more overrides index d below)) (set (take index overrides) are.1))

pub some_not : (overrides : List Override) (index : ℕ) (d : Override) → index < length overrides → ¬ (HoldsForSome (get_or overrides index d)) → ¬ (All HoldsForSome overrides)
some_not overrides index d below not all = not (All-get_or HoldsForSome overrides index d below all)

-- the minor version is no metric's value
pub minor_v4 : (own : VectorV4) (minor : ℕ) (kind : MetricType) → v4.value_of (record own { minor_version = minor }) kind ≡ v4.value_of own kind
minor_v4 own minor = elim [ metric.AC ↦ refl | _ ↦ refl ]
