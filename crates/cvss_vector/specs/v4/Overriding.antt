-- An organisation's own environmental metrics in place of a vector's: CVSS v4.0 specification, section 4.
use Rattle.std.specs.Prelude.{◌++◌, codes, ◌≡◌, ℕ, ◌<◌, List, length, IsSome}
use Rattle.std.specs.Fmt.{decimal}
use Rattle.std.specs.Option.{option_or}
use Rattle.cvss_base.specs.ErrorText.{error_text}
use Rattle.cvss_base.specs.Rejection.{Rejection, piece_at}
use Rattle.cvss_base.specs.Text.{IsComponent, name_part}
use Rattle.cvss_base.specs.Reported.{Reports}
use Rattle.cvss_base.specs.V4Types.{v4_reason, name_of, group_of}
use Rattle.cvss_base.specs.Version.{AreComponentsOf, read}
use Rattle.cvss_base.specs.declared.error.Error.{Error}
use Rattle.cvss_base.specs.declared.group.MetricGroup.TheVariants.{Environmental}
use Rattle.cvss_base.specs.declared.v4.MetricType.{MetricType}
use Rattle.cvss_text.specs.Setting.{IsWrongAt}
use Rattle.cvss_vector.specs.v4.Table.{value_at}
use Rattle.cvss_vector.specs.v4.Vector.{v4}
use Rattle.cvss_vector.specs.declared.v4.vector.Vector.{Vector}
use Rattle.cvss_vector.specs.declared.v4.vector.overriding.OverrideError.{OverrideError}
use Rattle.cvss_vector.specs.declared.v4.vector.overriding.OverrideError.TheVariants.{NotEnvironmental, Rejected}

-- the vector has environmental metrics alone
pub record IsEnvironmental (v : Vector) : Type 0 where
  pub each : (kind : MetricType) → IsSome (value_at v kind) → group_of kind ≡ Environmental

-- the texts, as they are read, are the components of a vector of environmental metrics, each once
pub record AreOverrides (texts : List (List ℕ)) (v : Vector) : Type 0 where
  pub components : AreComponentsOf v4 texts v
  pub environmental : IsEnvironmental v

-- the vector has another's environmental metrics where that has them, and all else as it was
pub record IsOverridden (v overrides new : Vector) : Type 0 where
  pub replaced : (kind : MetricType) → group_of kind ≡ Environmental → value_at new kind ≡ option_or (value_at overrides kind) (value_at v kind)
  pub kept : (kind : MetricType) → ¬ (group_of kind ≡ Environmental) → value_at new kind ≡ value_at v kind
  pub minor_version : new.minor_version ≡ v.minor_version

-- the text is a component of a metric of another group
pub record IsOfOtherGroup (text : List ℕ) : Type 0 where
  pub component : IsComponent text
  pub kind : MetricType
  pub named : name_of kind ≡ read v4 (name_part text)
  pub other : ¬ (group_of kind ≡ Environmental)

-- why a text is no override: its metric is of another group, or it is rejected as a component is
pub data Objection : Type 0 where
  OfOtherGroup : Objection
  OfText : Rejection MetricType → Objection

-- what is wrong with the text at a place: its metric is of another group; or else what is wrong with it as a component of a
-- vector (cvss_text, Setting)
abbrev pub ObjectionAt : List (List ℕ) → ℕ → Objection → Type 0
ObjectionAt texts place OfOtherGroup = IsOfOtherGroup (piece_at texts place)
ObjectionAt texts place (OfText reason) = ¬ (IsOfOtherGroup (piece_at texts place)) × IsWrongAt v4 texts place reason

-- nothing is wrong with the texts before this place
pub record HasNoObjectionBefore (texts : List (List ℕ)) (place : ℕ) : Type 0 where
  pub none : (earlier : ℕ) (objection : Objection) → earlier < place → ¬ (ObjectionAt texts earlier objection)

-- the first text with which something is wrong, and what
pub record IsFirstObjection (texts : List (List ℕ)) (place : ℕ) (objection : Objection) : Type 0 where
  pub within : place < length texts
  pub is : ObjectionAt texts place objection
  pub earlier : HasNoObjectionBefore texts place

-- the error says what is wrong with the text at a place
abbrev pub ReportsObjection : ℕ → Objection → OverrideError → Type 0
ReportsObjection place OfOtherGroup reported = reported ≡ NotEnvironmental place
ReportsObjection place (OfText reason) reported =
    (error : Error) × (reported ≡ Rejected place error) × Reports v4_reason reason error

-- the error says the first text with which something is wrong, and what
pub record ReportsFirstObjection (texts : List (List ℕ)) (reported : OverrideError) : Type 0 where
  pub place : ℕ
  pub objection : Objection
  pub first : IsFirstObjection texts place objection
  pub reports : ReportsObjection place objection reported

-- the error's text
abbrev pub override_error_text : OverrideError → List ℕ
override_error_text (NotEnvironmental index) = codes "override " ++ decimal index ++ codes ": no environmental CVSSv4 metric"
override_error_text (Rejected index error) = codes "override " ++ decimal index ++ codes ": " ++ error_text error
