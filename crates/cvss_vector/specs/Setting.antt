-- Metrics that are set in a vector of any version, and a vector that is built from metrics alone: CVSS v2 guide, section
-- 2.4; v3.1 specification, section 6; v4.0 specification, section 7.
use Rattle.std.specs.Prelude.{◌≡◌, ℕ, List, [], ◌∷◌, ◌++◌, codes, Option}
use Rattle.cvss_base.specs.Rejection.{Rejection}
use Rattle.cvss_base.specs.Text.{pieces}
use Rattle.cvss_text.specs.Setting.{IsBuildReason, IsBuilt, IsSet, IsSetReason, components_in}
use Rattle.cvss_vector.specs.Dispatch.{IsReasonOf}
use Rattle.cvss_vector.specs.declared.metric_type.MetricType.{MetricType}
use Rattle.cvss_vector.specs.declared.metric_type.MetricType.TheVariants as metric
use Rattle.cvss_vector.specs.declared.setting.Version.{Version}
use Rattle.cvss_vector.specs.declared.setting.Version.TheVariants.{V20, V30, V31, V40}
use Rattle.cvss_vector.specs.declared.vector.Cvss.{Cvss}
use Rattle.cvss_vector.specs.declared.vector.Cvss.TheVariants.{CvssV20, CvssV30, CvssV31, CvssV40}
use Rattle.cvss_vector.specs.v2.Vector.{v2}
use Rattle.cvss_vector.specs.v3.Vector.{v3}
use Rattle.cvss_vector.specs.v4.Vector.{v4}

-- the vector is one of a version, of which this holds
pub record IsOf {V : Type 0} (wrap : V → Cvss) (Holds : V → Type 0) (cvss : Cvss) : Type 0 where
  pub own : V
  pub holds : Holds own
  pub is : cvss ≡ wrap own

-- the vector with the components of a text set, which it joins by slashes
abbrev pub IsWith : Cvss → List ℕ → Cvss → Type 0
IsWith (CvssV20 v) text = IsOf CvssV20 (IsSet v2 v (components_in text))
IsWith (CvssV30 v) text = IsOf CvssV30 (IsSet v3 v (components_in text))
IsWith (CvssV31 v) text = IsOf CvssV31 (IsSet v3 v (components_in text))
IsWith (CvssV40 v) text = IsOf CvssV40 (IsSet v4 v (components_in text))

-- why they are not set: the first with which something is wrong, by the version of the vector
abbrev pub IsWithReason : Cvss → List ℕ → Option ℕ → Rejection MetricType → Type 0
IsWithReason (CvssV20 v) text index = IsReasonOf metric.V2 (IsSetReason v2 (components_in text) index)
IsWithReason (CvssV30 v) text index = IsReasonOf metric.V3 (IsSetReason v3 (components_in text) index)
IsWithReason (CvssV31 v) text index = IsReasonOf metric.V3 (IsSetReason v3 (components_in text) index)
IsWithReason (CvssV40 v) text index = IsReasonOf metric.V4 (IsSetReason v4 (components_in text) index)

-- the vector of a version that the components of a text make, which it joins by slashes
abbrev pub IsBuiltAs : Version → List ℕ → Cvss → Type 0
IsBuiltAs V20 text = IsOf CvssV20 (IsBuilt v2 [] (pieces text))
IsBuiltAs V30 text = IsOf CvssV30 (IsBuilt v3 (codes "CVSS:3.0" ∷ []) (pieces text))
IsBuiltAs V31 text = IsOf CvssV31 (IsBuilt v3 (codes "CVSS:3.1" ∷ []) (pieces text))
IsBuiltAs V40 text = IsOf CvssV40 (IsBuilt v4 (codes "CVSS:4.0" ∷ []) (pieces text))

-- why they make none: the first with which something is wrong, or else the first mandatory metric that is missing
abbrev pub IsBuiltReason : Version → List ℕ → Option ℕ → Rejection MetricType → Type 0
IsBuiltReason V20 text index = IsReasonOf metric.V2 (IsBuildReason v2 (pieces text) index)
IsBuiltReason V30 text index = IsReasonOf metric.V3 (IsBuildReason v3 (pieces text) index)
IsBuiltReason V31 text index = IsReasonOf metric.V3 (IsBuildReason v3 (pieces text) index)
IsBuiltReason V40 text index = IsReasonOf metric.V4 (IsBuildReason v4 (pieces text) index)

-- the text of a version with components, as it is read: after the piece that says the version, where there is one
abbrev pub text_with : Version → List ℕ → List ℕ
text_with V20 text = text
text_with V30 text = codes "CVSS:3.0/" ++ text
text_with V31 text = codes "CVSS:3.1/" ++ text
text_with V40 text = codes "CVSS:4.0/" ++ text
