-- Overrides: the environmental metrics, and texts that are read one after another.
use Rattle.std.proofs.Common.{◌≡◌, true, inl, inr, ℕ, ◌+◌, ◌-◌, ◌<◌, ◌≤◌, List, [], ◌∷◌, ◌++◌, codes, length, take, IsSome, refl, sym, ap, ◌∙◌, subst, arith, length-append}
use Rattle.std.proofs.lemmas.List.{get_or-take, length-take-le}
use Rattle.std.proofs.lemmas.List.Elements.{filter_passes, All-contains}
use Rattle.cvss_base.specs.Rejection.{BadComponent, piece_at}
use Rattle.cvss_base.specs.Text.{IsComponent, name_part}
use Rattle.cvss_base.specs.Groups.{same_group}
use Rattle.cvss_base.specs.V4Types.{name_of, group_of, declared}
use Rattle.cvss_base.specs.Version.{numeral, read, version_piece, IsComplete}
use Rattle.cvss_base.specs.declared.group.MetricGroup.{MetricGroup}
use Rattle.cvss_base.specs.declared.group.MetricGroup.TheVariants.{Base, Environmental}
use Rattle.cvss_base.specs.declared.v4.MetricType.{MetricType}
use Rattle.cvss_text.specs.Setting.{IsWrongAt}
use Rattle.cvss_text.specs.private.Walk.{HasNoValue, HasReadTo}
use Rattle.cvss_text.proofs.ComponentLemmas.{all_taken, name_from, piece_held, piece_is_component}
use Rattle.cvss_text.proofs.DenotesLemmas.{no_fault_before, vectors_same}
use Rattle.cvss_text.proofs.LawLemmas.{names_differ}
use Rattle.cvss_text.proofs.RejectionLemmas.{same_place}
use Rattle.cvss_text.proofs.SettingLemmas.{IsFirstWrong-at, wrongs_same}
use Rattle.cvss_text.proofs.WalkLemmas.{first_left, taken, HasReadTo-all, HasReadTo-more, HasReadTo-start}
use Rattle.cvss_metric.specs.v4.Table.{mandatory}
use Rattle.cvss_vector.specs.v4.Overriding.{AreOverrides, HasNoObjectionBefore, IsEnvironmental, IsFirstObjection, IsOfOtherGroup, Objection, OfOtherGroup, OfText, ObjectionAt}
use Rattle.cvss_vector.specs.v4.private.OverridingSteps.{AddsOverride, IsObjectionTo}
use Rattle.cvss_vector.specs.v4.Table.{value_at}
use Rattle.cvss_vector.specs.v4.Vector.{v4}
use Rattle.cvss_vector.specs.v4.private.VectorLaws.{one_minor_version, v4_laws}
use Rattle.cvss_vector.specs.declared.v4.vector.Vector.{Vector}

-- a text that names an environmental metric is of no other group
pub names_no_other : (kind : MetricType) (text : List ℕ) → name_of kind ≡ read v4 (name_part text) → group_of kind ≡ Environmental → IsOfOtherGroup text → ⊥
names_no_other kind text named is other =
    other.other (subst (λ each. group_of each ≡ Environmental) (names_differ v4 v4_laws kind other.kind (named ∙ sym other.named)) is)

-- a group that is no other is the environmental one
environmental : (group : MetricGroup) → ¬ (¬ (group ≡ Environmental)) → group ≡ Environmental
environmental = elim [ Environmental ↦ λ not. refl | _ ↦ λ not. absurd (not (λ same. absurd cc)) ]

-- texts are the overrides of one vector with minor version 0
pub one_overrides : (texts : List (List ℕ)) (v w : Vector) → v.minor_version ≡ 0 → w.minor_version ≡ 0 → AreOverrides texts v → AreOverrides texts w → v ≡ w
one_overrides texts v w of_v of_w are_v are_w =
    let front : v4.front v ≡ v4.front w = ap (λ n. version_piece (codes "4." ++ numeral n) ∷ []) (of_v ∙ sym of_w) in
    vectors_same v4 v4_laws v w texts front are_v.components are_w.components

-- nothing is wrong with the first texts, where they are a vector of environmental metrics
no_objection_taken : (texts : List (List ℕ)) (v : Vector) (n : ℕ) → n ≤ length texts → AreOverrides (take n texts) v → HasNoObjectionBefore texts n
no_objection_taken texts v n fits are = record { none = none } where
  inside : (earlier : ℕ) → earlier < n → earlier < length (take n texts)
  inside earlier below = omega (arith, below, length-take-le n texts fits)

  none : (earlier : ℕ) (objection : Objection) → earlier < n → ObjectionAt texts earlier objection → ⊥
  none earlier OfOtherGroup below is =
      let held = piece_held v4 v4_laws v (take n texts) earlier are.components (inside earlier below) in
      names_no_other held.kind (piece_at (take n texts) earlier) (sym (name_from v4 v4_laws (piece_at (take n texts) earlier) held.kind _ held.is)) (are.environmental.each held.kind (rw held.held)) (subst IsOfOtherGroup (sym (get_or-take n texts earlier [] below)) is)
  none earlier (OfText (BadComponent piece)) below is =
      is.1.1 (subst IsComponent (get_or-take n texts earlier [] below) (piece_is_component v4 v4_laws v (take n texts) are.components earlier (inside earlier below)))
  none earlier (OfText reason) below is = (no_fault_before v4 v4_laws v texts n fits are.components).none earlier reason below is.1.1

-- nothing is wrong with overrides
pub no_objection_held : (texts : List (List ℕ)) (v : Vector) → AreOverrides texts v → HasNoObjectionBefore texts (length texts)
no_objection_held texts v are =
    no_objection_taken texts v (length texts) (omega arith) (record { components = all_taken v4 v texts are.components; environmental = are.environmental })

pub no_overrides : (texts : List (List ℕ)) (place : ℕ) (objection : Objection) → IsFirstObjection texts place objection → (v : Vector) → ¬ (AreOverrides texts v)
no_overrides texts place objection first v are = (no_objection_held texts v are).none place objection first.within first.is

-- the vector has minor version 0 and holds the overrides before those that are left
pub record HasReadOverrides (texts left : List (List ℕ)) (v : Vector) : Type 0 where
  pub version : v.minor_version ≡ 0
  pub read : HasReadTo v4 texts left v
  pub environmental : IsEnvironmental v

pub HasReadOverrides-start : (texts : List (List ℕ)) (v : Vector) → v.minor_version ≡ 0 → HasNoValue v4 v → HasReadOverrides texts texts v
HasReadOverrides-start texts v version empty = record {
  version = version;
  read = HasReadTo-start v4 v4_laws texts v empty;
  environmental = record { each = λ kind some. let no = subst IsSome (empty.none kind) some in absurd cc };
}

module _ (texts left : List (List ℕ)) (v : Vector) (before : HasReadOverrides texts left v) where
  pub AreOverrides-all : left ≡ [] → AreOverrides texts v
  AreOverrides-all none = record { components = HasReadTo-all v4 v4_laws texts left v before.read none; environmental = before.environmental }

  module _ (text : List ℕ) (after : List (List ℕ)) (next : left ≡ text ∷ after) where
    pub HasReadOverrides-more : (new : Vector) → AddsOverride v text new → HasReadOverrides texts after new
    HasReadOverrides-more new is =
        let adds = is.adds in
        let here = environmental (group_of adds.kind) (λ other. is.none (record { component = is.component; kind = adds.kind; named = adds.named; other = other })) in
        record {
          version = one_minor_version new v adds.puts.front ∙ before.version;
          read = HasReadTo-more v4 v4_laws texts left v before.read new text after next adds;
          environmental = record { each = λ kind some. elim (adds.puts.others kind) [ inl same ↦ subst (λ each. group_of each ≡ Environmental) (sym same) here | inr same ↦ before.environmental.each kind (subst IsSome same some) ] };
        }

    -- what is wrong with the next text is the first that is
    pub IsFirstObjection-next : (place : ℕ) → place + length left ≡ length texts → (objection : Objection) → IsObjectionTo v text objection → IsFirstObjection texts place objection
    IsFirstObjection-next place at objection is = record { within = omega (arith, at, ap length next); is = objection_at objection is; earlier = earlier } where
      at_place : length before.read.before ≡ place
      at_place = omega (arith, at, ap length before.read.cut, length-append before.read.before left)

      here : text ≡ piece_at texts place
      here = ap (λ list. piece_at list 0) (sym next) ∙ first_left v4 v4_laws texts left v before.read ∙ ap (piece_at texts) at_place

      at_same : length texts - length left ≡ place
      at_same = omega (arith, at)

      objection_at : (objection : Objection) → IsObjectionTo v text objection → ObjectionAt texts place objection
      objection_at OfOtherGroup is = subst IsOfOtherGroup here is
      objection_at (OfText reason) is = (subst (λ each. ¬ (IsOfOtherGroup each)) here is.0, subst (λ n. IsWrongAt v4 texts n reason) at_same (IsFirstWrong-at v4 v4_laws texts left v before.read (length texts) (length left) refl refl text after next reason is.1).is)

      earlier : HasNoObjectionBefore texts place
      earlier =
          subst (HasNoObjectionBefore texts) at_place
          (no_objection_taken texts v (length before.read.before) (omega (arith, at, at_place)) (record { components = taken v4 v4_laws texts left v before.read; environmental = before.environmental }))

-- one objection at a place
objections_same : (texts : List (List ℕ)) (place : ℕ) (one other : Objection) → ObjectionAt texts place one → ObjectionAt texts place other → one ≡ other
objections_same texts place OfOtherGroup OfOtherGroup a b = refl
objections_same texts place OfOtherGroup (OfText _) a b = absurd (b.0 a)
objections_same texts place (OfText _) OfOtherGroup a b = absurd (a.0 b)
objections_same texts place (OfText one) (OfText other) a b = ap OfText (wrongs_same v4 v4_laws texts place one other a.1 b.1)

-- two first objections are one
pub first_objections_same : (texts : List (List ℕ)) (p q : ℕ) (one other : Objection) → IsFirstObjection texts p one
    → IsFirstObjection texts q other → (p ≡ q) × (one ≡ other)
first_objections_same texts p q one other first second =
    let same = same_place p q (λ before. second.earlier.none p one before first.is) (λ before. first.earlier.none q other before second.is) in
    (same, objections_same texts q one other (subst (λ place. ObjectionAt texts place one) same first.is) second.is)

-- a vector stays complete where its base metrics are kept
is_base : (group : MetricGroup) → same_group group Base ≡ true → group ≡ Base
is_base = elim [ Base ↦ λ is. refl | _ ↦ λ is. absurd cc ]

pub IsComplete-kept : (v new : Vector) → ((kind : MetricType) → group_of kind ≡ Base → value_at new kind ≡ value_at v kind) → IsComplete v4 v → IsComplete v4 new
IsComplete-kept v new kept complete = record {
  present = λ kind is.
      let base = All-contains (λ each. same_group (group_of each) Base ≡ true) mandatory kind (filter_passes (λ each. same_group (group_of each) Base) declared) is in
      subst IsSome (sym (kept kind (is_base (group_of kind) base))) (complete.present kind is);
}
