-- An organisation's own metrics: CVSS v2 guide, section 2.3; v3.1 specification, sections 3 and 4; v4.0 specification,
-- sections 3 and 4.
use Rattle.std.specs.Prelude.{◌≡◌, ◌⊎◌, List, ◌∷◌, ◌++◌, All, Option, None, Some, ⊤}
use Rattle.std.specs.Option.{option_or}
use Rattle.cvss_base.specs.Version.{Version, AreComponentsOf}
use Rattle.cvss_text.specs.Setting.{components_in}
use Rattle.cvss_vector.specs.Setting.{IsOf}
use Rattle.cvss_vector.specs.declared.vector.Cvss.{Cvss}
use Rattle.cvss_vector.specs.declared.vector.Cvss.TheVariants.{CvssV20, CvssV30, CvssV31, CvssV40}
use Rattle.cvss_vector.specs.v2.Vector.{v2}
use Rattle.cvss_vector.specs.v3.Vector.{v3}
use Rattle.cvss_vector.specs.v4.Vector.{v4}
use Rattle.cvss_triage.specs.declared.overrides.Family.{Family}
use Rattle.cvss_triage.specs.declared.overrides.Family.TheVariants.{V2, V3, V4}
use Rattle.cvss_triage.specs.declared.overrides.Override.{Override}

-- metrics for a family, or for all versions, may be set in the vectors of a family
abbrev pub IsFor : Option Family → Family → Type 0
IsFor None family = ⊤
IsFor (Some own) family = own ≡ family

-- the override holds for the vectors of a family, whose versions have its metrics and these values: it gives them as a
-- vector that has no others
pub record Gives {V K : Type 0} (version : Version V K) (family : Family) (it : Override) (given : V) : Type 0 where
  pub allowed : IsFor it.family family
  pub components : AreComponentsOf version (components_in it.metrics.now) given

-- the override holds for the vectors of a family
pub record HoldsIn {V K : Type 0} (version : Version V K) (family : Family) (it : Override) : Type 0 where
  pub given : V
  pub gives : Gives version family it given

-- the override holds for the vectors of some family
abbrev pub HoldsForSome : Override → Type 0
HoldsForSome it = HoldsIn v2 V2 it ⊎ (HoldsIn v3 V3 it ⊎ HoldsIn v4 V4 it)

-- the override holds for the vectors of a family, and gives a metric this value
pub record Sets {V K : Type 0} (version : Version V K) (family : Family) (kind : K) (value : version.Value kind) (it : Override) : Type 0 where
  pub given : V
  pub gives : Gives version family it given
  pub value_is : version.value_of given kind ≡ Some value

-- the override gives a metric no value in the vectors of a family
abbrev pub SetsNot : {V K : Type 0} → (version : Version V K) → Family → K → Override → Type 0
SetsNot version family kind it = (value : version.Value kind) → ¬ (Sets version family kind value it)

-- the last of the overrides that gives the metric a value in the vectors of the family gives it this one
pub record IsLastSet {V K : Type 0} (version : Version V K) (family : Family) (overrides : List Override) (kind : K) (value : version.Value kind) : Type 0 where
  pub earlier : List Override
  pub last : Override
  pub later : List Override
  pub are : overrides ≡ earlier ++ last ∷ later
  pub sets : Sets version family kind value last
  pub none_later : All (SetsNot version family kind) later

-- the value that an organisation's overrides give a metric in the vectors of a family: that of the last which gives it one
abbrev pub IsOwnValue : {V K : Type 0} → (version : Version V K) → Family → List Override → (kind : K) → Option (version.Value kind) → Type 0
IsOwnValue version family overrides kind (Some value) = IsLastSet version family overrides kind value
IsOwnValue version family overrides kind None = All (SetsNot version family kind) overrides

-- an organisation's own metrics for a family
abbrev pub AreOwn : {V K : Type 0} → (version : Version V K) → Family → List Override → ((kind : K) → Option (version.Value kind)) → Type 0
AreOwn {V} {K} version family overrides own = (kind : K) → IsOwnValue version family overrides kind (own kind)

-- the vector with an organisation's own metrics: these where they are set, and its own elsewhere
pub record HasOwn {V K : Type 0} (version : Version V K) (family : Family) (overrides : List Override) (v new : V) : Type 0 where
  pub own : (kind : K) → Option (version.Value kind)
  pub are_own : AreOwn version family overrides own
  pub values : (kind : K) → version.value_of new kind ≡ option_or (own kind) (version.value_of v kind)
  pub front_is : version.front new ≡ version.front v

-- the same of a vector of any version; v3.0 and v3.1 have the same metrics
abbrev pub IsWithOwn : List Override → Cvss → Cvss → Type 0
IsWithOwn overrides (CvssV20 v) = IsOf CvssV20 (HasOwn v2 V2 overrides v)
IsWithOwn overrides (CvssV30 v) = IsOf CvssV30 (HasOwn v3 V3 overrides v)
IsWithOwn overrides (CvssV31 v) = IsOf CvssV31 (HasOwn v3 V3 overrides v)
IsWithOwn overrides (CvssV40 v) = IsOf CvssV40 (HasOwn v4 V4 overrides v)
