-- Metrics that are set in a vector, and a vector that is built from metrics alone: CVSS v2 guide, section 2.4; v3.1
-- specification, section 6; v4.0 specification, section 7. Components are counted from 0.
use Rattle.std.specs.Prelude.{◌≡◌, ℕ, ◌<◌, List, [], ◌∷◌, length, Option, Some, None}
use Rattle.std.specs.Option.{option_or}
use Rattle.cvss_base.specs.Rejection.{Rejection, BadComponent, Missing, FaultAt, IsFirstMissing, piece_at}
use Rattle.cvss_base.specs.Text.{IsComponent, pieces}
use Rattle.cvss_base.specs.Version.{Version, AreComponentsOf, IsComplete}

-- the components that a text joins by slashes; an empty text has none
abbrev pub components_in : List ℕ → List (List ℕ)
components_in [] = []
components_in (byte ∷ bytes) = pieces (byte ∷ bytes)

-- the vector with these components set, each once and in any order: their values for the metrics that they name, and its
-- own values for all others
pub record IsSet {V K : Type 0} (version : Version V K) (v : V) (parts : List (List ℕ)) (new : V) : Type 0 where
  pub given : V
  pub components : AreComponentsOf version parts given
  pub values : (kind : K) → version.value_of new kind ≡ option_or (version.value_of given kind) (version.value_of v kind)
  pub front_is : version.front new ≡ version.front v

-- the vector of this front with these components, each once and in any order, and all mandatory metrics among them
pub record IsBuilt {V K : Type 0} (version : Version V K) (front parts : List (List ℕ)) (v : V) : Type 0 where
  pub front_is : version.front v ≡ front
  pub components : AreComponentsOf version parts v
  pub complete : IsComplete version v

-- what is wrong with the component at an index: it has no colon, or more than one; or else no metric has its name; or else
-- the metric has no such value; or else an earlier component has the same name
abbrev pub IsWrongAt : {V K : Type 0} → Version V K → List (List ℕ) → ℕ → Rejection K → Type 0
IsWrongAt version parts index (BadComponent piece) =
    (piece ≡ piece_at parts index) × ¬ (IsComponent (piece_at parts index))
IsWrongAt version parts index reason = IsComponent (piece_at parts index) × FaultAt version parts index reason

-- nothing is wrong with the components before this index
pub record AreRightBefore {V K : Type 0} (version : Version V K) (parts : List (List ℕ)) (index : ℕ) : Type 0 where
  pub none : (earlier : ℕ) (reason : Rejection K) → earlier < index → ¬ (IsWrongAt version parts earlier reason)

-- the first component with which something is wrong, and what
pub record IsFirstWrong {V K : Type 0} (version : Version V K) (parts : List (List ℕ)) (index : ℕ) (reason : Rejection K) : Type 0 where
  pub within : index < length parts
  pub is : IsWrongAt version parts index reason
  pub earlier : AreRightBefore version parts index

-- why no metrics are set: the index of the first component with which something is wrong, and what
abbrev pub IsSetReason : {V K : Type 0} → Version V K → List (List ℕ) → Option ℕ → Rejection K → Type 0
IsSetReason version parts (Some index) reason = IsFirstWrong version parts index reason
IsSetReason version parts None reason = ⊥

-- why no vector is built: the same; or nothing is wrong with the components, and this mandatory metric is the first missing
abbrev pub IsBuildReason : {V K : Type 0} → Version V K → List (List ℕ) → Option ℕ → Rejection K → Type 0
IsBuildReason version parts (Some index) reason = IsFirstWrong version parts index reason
IsBuildReason version parts None (Missing kind) =
    AreRightBefore version parts (length parts) × IsFirstMissing version parts kind
IsBuildReason version parts None reason = ⊥
