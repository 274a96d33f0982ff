-- A vector without the metrics that are not defined: CVSS v2 guide, sections 2.2 and 2.3 (ND); v3.1 specification,
-- sections 3 and 4 (X); v4.0 specification, sections 3 to 5 (X).
use Rattle.std.specs.Prelude.{◌≡◌, ◌⊎◌, ℕ, List, All, codes, bytes_eq, if◌then◌else◌, Option, Some, None}
use Rattle.std.specs.Option.{option_and_then}
use Rattle.cvss_base.specs.Version.{Version, held}
use Rattle.cvss_vector.specs.Answers.{text_of}
use Rattle.cvss_vector.specs.v2.Vector.{v2}
use Rattle.cvss_vector.specs.v3.Vector.{v3}
use Rattle.cvss_vector.specs.v4.Vector.{v4}
use Rattle.cvss_vector.specs.declared.vector.Cvss.{Cvss}
use Rattle.cvss_vector.specs.declared.vector.Cvss.TheVariants.{CvssV20, CvssV30, CvssV31, CvssV40}

-- the spelling of a value, unless it says that the metric is not defined
abbrev pub if_defined : List ℕ → List ℕ → Option (List ℕ)
if_defined undefined spelling = if bytes_eq spelling undefined then None else Some spelling

-- the spelling of the vector's value for a metric, unless this is not defined
abbrev pub defined_in : {V K : Type 0} → Version V K → List ℕ → V → K → Option (List ℕ)
defined_in version undefined v kind = option_and_then (if_defined undefined) (held version v kind)

-- the second vector has the first's defined metrics, and no others
pub record HasDefinedOf {V K : Type 0} (version : Version V K) (undefined : List ℕ) (v w : V) : Type 0 where
  pub front_is : version.front w ≡ version.front v
  pub held_is : (kind : K) → held version w kind ≡ defined_in version undefined v kind

-- the vector has no metric that is defined, as may be in CVSS v3
abbrev pub HasNoneDefined : {V K : Type 0} → Version V K → List ℕ → V → Type 0
HasNoneDefined version undefined v = All (λ kind. defined_in version undefined v kind ≡ None) version.printed

-- the second vector is the first without its undefined metrics; all are kept where none is defined
abbrev pub IsWithout : {V K : Type 0} → Version V K → List ℕ → V → V → Type 0
IsWithout version undefined v w =
    (HasNoneDefined version undefined v × (w ≡ v)) ⊎ (¬ (HasNoneDefined version undefined v) × HasDefinedOf version undefined v w)

abbrev pub IsWithoutNotDefined : Cvss → Cvss → Type 0
IsWithoutNotDefined (CvssV20 vector) (CvssV20 new) = IsWithout v2 (codes "ND") vector new
IsWithoutNotDefined (CvssV30 vector) (CvssV30 new) = IsWithout v3 (codes "X") vector new
IsWithoutNotDefined (CvssV31 vector) (CvssV31 new) = IsWithout v3 (codes "X") vector new
IsWithoutNotDefined (CvssV40 vector) (CvssV40 new) = IsWithout v4 (codes "X") vector new
IsWithoutNotDefined _ _ = ⊥

-- the text is the canonical one of such a vector
abbrev pub IsTextWithout : Cvss → List ℕ → Type 0
IsTextWithout cvss text = (new : Cvss) × IsWithoutNotDefined cvss new × (text ≡ text_of new)
