-- Components that are read one after another to be set, and the vector that has their values.
use Rattle.std.proofs.Common.{◌≡◌, ◌⊎◌, inl, inr, ℕ, ◌+◌, ◌-◌, ◌<◌, ◌≤◌, List, [], ◌∷◌, length, take, Option, Some, None, IsSome, IfSome, Ok, Err, refl, sym, ap, ◌∙◌, subst, arith, get_or, slice_get}
use Rattle.std.specs.List.{cons_option, filter_map}
use Rattle.std.specs.Option.{option_or}
use Rattle.std.proofs.lemmas.List.{get_or-take, length-append, length-map, length-take-le}
use Rattle.std.proofs.lemmas.List.Sorted.{length_permutation}
use Rattle.std.proofs.lemmas.Bool.{cases_lt}
use Rattle.std.proofs.lemmas.Option.{same_Some, slice_get_read, slice_get_within}
use Rattle.cvss_base.specs.Rejection.{Rejection, BadComponent, Missing, piece_at}
use Rattle.cvss_base.specs.Text.{IsComponent}
use Rattle.cvss_base.specs.Version.{Version, AreComponentsOf, IsComplete, component_of, components_of, read}
use Rattle.cvss_text.specs.Setting.{AreRightBefore, IsBuildReason, IsBuilt, IsFirstWrong, IsSet, IsSetReason, IsWrongAt}
use Rattle.cvss_text.specs.private.SettingSteps.{IsAnswered, IsCopied, IsWrongFor}
use Rattle.cvss_text.specs.private.Walk.{HasReadTo, VersionLaws, place_of, reason_of}
use Rattle.cvss_text.specs.declared.walk.Fault.{Fault}
use Rattle.cvss_text.proofs.ComponentLemmas.{all_taken, piece_is_component}
use Rattle.cvss_text.proofs.DenotesLemmas.{no_fault_before, no_reason, values_same, vectors_same}
use Rattle.cvss_text.proofs.RejectionLemmas.{faults_same, reasons_same, same_place}
use Rattle.cvss_text.proofs.WalkLemmas.{fault_at, first_left, taken}

filter_map-most : {X Y : Type 0} (f : X → Option Y) (xs : List X) → length (filter_map f xs) ≤ length xs
filter_map-most f [] = omega arith
filter_map-most f (x ∷ xs) = elim (f x) as (λ part. length (cons_option part (filter_map f xs)) ≤ length (x ∷ xs)) [ None ↦ omega (arith, filter_map-most f xs) | Some _ ↦ omega (arith, filter_map-most f xs) ]

-- an option, or another, has a value where one of them has
or_some : {X : Type 0} (one other : Option X) → IsSome other → IsSome (option_or one other)
or_some None other some = some
or_some (Some value) other some = refl

or_twice : {X : Type 0} (one other : Option X) → option_or (option_or one other) other ≡ option_or one other
or_twice None None = refl
or_twice None (Some value) = refl
or_twice (Some value) other = refl

-- one vector is such, or there is one reason why none is
pub record IsSole {V K : Type 0} (IsIt : V → Type 0) (IsReason : Option ℕ → Rejection K → Type 0) : Type 0 where
  pub one : (v w : V) → IsIt v → IsIt w → v ≡ w
  pub one_reason : (i j : Option ℕ) (one other : Rejection K) → IsReason i one → IsReason j other → (i ≡ j) × (one ≡ other)
  pub none : (v : V) (index : Option ℕ) (reason : Rejection K) → IsIt v → IsReason index reason → ⊥

module _ {V K : Type 0} (version : Version V K) {IsIt : V → Type 0} {IsReason : Option ℕ → Rejection K → Type 0} (sole : IsSole IsIt IsReason) where
  pub IsAnswered-Ok : (v : V) → IsIt v → IsAnswered version IsIt IsReason (Ok v)
  IsAnswered-Ok v is = record {
    accepted = is;
    accepts = λ w also. ap Ok (sole.one v w is also);
    rejected = tt;
    rejects = λ index reason why. absurd (sole.none v index reason is why);
    bound = tt;
  }

  pub IsAnswered-Err : (index : Option ℕ) (fault : Fault K) → IsReason index (reason_of version fault) → IfSome index (λ i. i ≤ length version.printed) → IsAnswered version IsIt IsReason (Err (index, fault))
  IsAnswered-Err index fault why bound = record {
    accepted = tt;
    accepts = λ v is. absurd (sole.none v index (reason_of version fault) is why);
    rejected = why;
    rejects = λ j other also. sole.one_reason index j (reason_of version fault) other why also;
    bound = bound;
  }

-- the vector has the given value for a metric or, without one, another that is wanted
abbrev IsCompletedAt : {V K : Type 0} → (version : Version V K) → ((kind : K) → Option (version.Value kind)) → V → V → K → Type 0
IsCompletedAt version wanted given v kind = version.value_of v kind ≡ option_or (version.value_of given kind) (wanted kind)

-- the metrics that are printed before an index are completed, and others are completed or as they were given
pub record IsCompletedTo {V K : Type 0} (version : Version V K) (wanted : (kind : K) → Option (version.Value kind)) (given : V) (index : ℕ) (v : V) : Type 0 where
  pub completed : (kind : K) → place_of version kind < index → IsCompletedAt version wanted given v kind
  pub either : (kind : K) → (version.value_of v kind ≡ version.value_of given kind) ⊎ IsCompletedAt version wanted given v kind
  pub front : version.front v ≡ version.front given

module _ {V K : Type 0} (version : Version V K) (version_laws : VersionLaws version) where
  -- nothing is wrong with the first pieces, where they are a vector's components
  right_taken : (v : V) (parts : List (List ℕ)) (n : ℕ) → n ≤ length parts → AreComponentsOf version (take n parts) v → AreRightBefore version parts n
  right_taken v parts n fits components = record { none = none } where
    none : (earlier : ℕ) (reason : Rejection K) → earlier < n → IsWrongAt version parts earlier reason → ⊥
    none earlier (BadComponent piece) below wrong = wrong.1 (subst IsComponent (get_or-take n parts earlier [] below) (piece_is_component version version_laws v (take n parts) components earlier (omega (arith, below, length-take-le n parts fits))))
    none earlier reason below wrong = (no_fault_before version version_laws v parts n fits components).none earlier reason below wrong.1

  pub right_all : (v : V) (parts : List (List ℕ)) → AreComponentsOf version parts v → AreRightBefore version parts (length parts)
  right_all v parts components = right_taken v parts (length parts) (omega arith) (all_taken version v parts components)

  pub right_held : (v : V) (parts : List (List ℕ)) (index : ℕ) → AreComponentsOf version parts v → index < length parts → (reason : Rejection K) → IsWrongAt version parts index reason → ⊥
  right_held v parts index components within reason = (right_all v parts components).none index reason within

  -- where the vector holds the components before those that are left, what is wrong with the next is the first that is
  module _ (parts left : List (List ℕ)) (v : V) (to : HasReadTo version parts left v) (all rest : ℕ) (count : all ≡ length parts) (count_left : rest ≡ length left) where
    at_place : length to.before ≡ all - rest
    at_place = omega (arith, count, count_left, ap length to.cut, length-append to.before left)

    pub IsFirstWrong-at : (piece : List ℕ) (after : List (List ℕ)) → left ≡ piece ∷ after → (reason : Rejection K) → IsWrongFor version v piece reason → IsFirstWrong version parts (all - rest) reason
    IsFirstWrong-at piece after cut reason is =
        let here = first_left version version_laws parts left v to in
        subst (λ place. IsFirstWrong version parts place reason) at_place (record {
          within = within;
          is = wrong_at reason (subst (λ each. IsWrongFor version v each reason) (ap (λ list. piece_at list 0) (sym cut) ∙ here) is);
          earlier = right_taken v parts (length to.before) (omega (arith, within)) (taken version version_laws parts left v to);
        })
      where
        within : length to.before < length parts
        within = omega (arith, ap length to.cut, length-append to.before left, ap length cut)

        wrong_at : (reason : Rejection K) → IsWrongFor version v (piece_at parts (length to.before)) reason → IsWrongAt version parts (length to.before) reason
        wrong_at (BadComponent text) is = is
        wrong_at reason is = (is.0, fault_at version version_laws v parts (length to.before) (omega (arith, within)) (taken version version_laws parts left v to) reason is.1)

    -- no more components are read than a vector has metrics
    pub HasReadTo-most : all - rest ≤ length version.printed
    HasReadTo-most =
        omega (
          arith,
          at_place,
          length_permutation _ _ to.components.each_once,
          length-map to.before (read version),
          length-map (components_of version v) (read version),
          filter_map-most (component_of version v) version.printed,
        )

  -- one thing is wrong with a component
  pub wrongs_same : (parts : List (List ℕ)) (index : ℕ) (one other : Rejection K) → IsWrongAt version parts index one → IsWrongAt version parts index other → one ≡ other
  wrongs_same parts index (BadComponent _) (BadComponent _) a b = ap BadComponent (a.0 ∙ sym b.0)
  wrongs_same parts index (BadComponent _) other a b = absurd (a.1 b.0)
  wrongs_same parts index one (BadComponent _) a b = absurd (b.1 a.0)
  wrongs_same parts index one other a b = faults_same version version_laws parts index one other a.1 b.1

  first_wrongs_same : (parts : List (List ℕ)) (i j : ℕ) (one other : Rejection K) → IsFirstWrong version parts i one → IsFirstWrong version parts j other → (Some i ≡ Some j) × (one ≡ other)
  first_wrongs_same parts i j one other first second =
      let same = same_place i j (λ before. second.earlier.none i one before first.is) (λ before. first.earlier.none j other before second.is) in
      (ap Some same, wrongs_same parts j one other (subst (λ index. IsWrongAt version parts index one) same first.is) second.is)

  -- set: one vector, one reason, and not both
  module _ (v : V) (parts : List (List ℕ)) where
    set_once : (new other : V) → IsSet version v parts new → IsSet version v parts other → new ≡ other
    set_once new other is also =
        version_laws.one_vector new other (is.front_is ∙ sym also.front_is) (λ kind.
        is.values kind
        ∙ ap (λ each. option_or each (version.value_of v kind)) (values_same version version_laws is.given also.given parts is.components also.components kind)
        ∙ sym (also.values kind))

    pub set_no_reason : (new : V) (index : Option ℕ) (reason : Rejection K) → IsSet version v parts new → IsSetReason version parts index reason → ⊥
    set_no_reason new (Some index) reason is why = right_held is.given parts index is.components why.within reason why.is
    set_no_reason new None reason is why = why

    pub set_sole : IsSole (IsSet version v parts) (IsSetReason version parts)
    set_sole = record { one = set_once; one_reason = reasons_same; none = set_no_reason } where
      reasons_same : (i j : Option ℕ) (one other : Rejection K) → IsSetReason version parts i one → IsSetReason version parts j other → (i ≡ j) × (one ≡ other)
      reasons_same (Some i) (Some j) one other first second = first_wrongs_same parts i j one other first second
      reasons_same _ _ one other first second = absurd (assumption)

    -- a complete vector stays complete
    pub IsComplete-set : (new : V) → IsSet version v parts new → IsComplete version v → IsComplete version new
    IsComplete-set new is complete = record {
      present = λ kind mandatory. subst IsSome (sym (is.values kind)) (or_some (version.value_of is.given kind) (version.value_of v kind) (complete.present kind mandatory));
    }

  -- build: one vector, one reason, and not both
  pub build_sole : (front parts : List (List ℕ)) → IsSole (IsBuilt version front parts) (IsBuildReason version parts)
  build_sole front parts = record {
    one = λ v w is also. vectors_same version version_laws v w parts (is.front_is ∙ sym also.front_is) is.components also.components;
    one_reason = one_reason;
    none = none;
  } where
    none : (v : V) (index : Option ℕ) (reason : Rejection K) → IsBuilt version front parts v → IsBuildReason version parts index reason → ⊥
    none v (Some index) reason is why = right_held v parts index is.components why.within reason why.is
    none v None (Missing kind) is why = no_reason version version_laws v parts is.components is.complete (Missing kind) why.1
    none v None _ is why = absurd why

    one_reason : (i j : Option ℕ) (one other : Rejection K) → IsBuildReason version parts i one → IsBuildReason version parts j other → (i ≡ j) × (one ≡ other)
    one_reason (Some i) (Some j) one other first second = first_wrongs_same parts i j one other first second
    one_reason (Some i) None one (Missing other) first second = absurd (second.0.none i one first.within first.is)
    one_reason None (Some j) (Missing one) other first second = absurd (first.0.none j other second.within second.is)
    one_reason None None (Missing one) (Missing other) first second = (refl, reasons_same version version_laws parts (Missing one) (Missing other) first.1 second.1)
    one_reason _ _ _ _ first second = absurd (assumption)

  module _ (wanted : (kind : K) → Option (version.Value kind)) (given : V) where
    pub IsCompletedTo-start : IsCompletedTo version wanted given 0 given
    IsCompletedTo-start = record { completed = λ kind below. absurd (omega (arith, below)); either = λ kind. inl refl; front = refl }

    completed_here : (kind : K) (old new : V) → IsCopied version kind (wanted kind) old new → (version.value_of old kind ≡ version.value_of given kind) ⊎ IsCompletedAt version wanted given old kind → IsCompletedAt version wanted given new kind
    completed_here kind old new is (inl kept) = is.here ∙ ap (λ each. option_or each (wanted kind)) kept
    completed_here kind old new is (inr done) = is.here ∙ ap (λ each. option_or each (wanted kind)) done ∙ or_twice (version.value_of given kind) (wanted kind)

    pub IsCompletedTo-more : (index : ℕ) (kind : K) (items : List K) → items ≡ version.printed → index < length items → kind ≡ get_or items index kind → (old new : V) → IsCopied version kind (wanted kind) old new → IsCompletedTo version wanted given index old → IsCompletedTo version wanted given (index + 1) new
    IsCompletedTo-more index kind items all within item old new is before =
        let at = ap (λ kinds. slice_get kinds index) (sym all) ∙ slice_get_read items _ index kind refl within item in
        let here = completed_here kind old new is (before.either kind) in
        let at_kind : (other : K) → kind ≡ other → IsCompletedAt version wanted given new other = λ other same. subst (IsCompletedAt version wanted given new) same here in
        record {
          completed = λ other below. elim (cases_lt (place_of version other) index) [
            | inl earlier ↦ elim (is.others other) [ inl same ↦ at_kind other (sym same) | inr same ↦ same ∙ before.completed other earlier ]
            | inr back ↦ at_kind other (same_Some kind other (sym at ∙ ap (slice_get version.printed) (omega (arith, back, below)) ∙ version_laws.placed other))
          ];
          either = λ other. elim (is.others other) [
            | inl same ↦ inr (at_kind other (sym same))
            | inr same ↦ elim (before.either other) [ inl kept ↦ inl (same ∙ kept) | inr done ↦ inr (same ∙ done) ]
          ];
          front = is.front ∙ before.front;
        }

    pub IsCompletedTo-all : (index : ℕ) (items : List K) (v : V) → items ≡ version.printed → length items ≤ index → IsCompletedTo version wanted given index v → (kind : K) → IsCompletedAt version wanted given v kind
    IsCompletedTo-all index items v all past to kind = to.completed kind (omega (arith, ap length all, past, slice_get_within version.printed (place_of version kind) kind (version_laws.placed kind)))
