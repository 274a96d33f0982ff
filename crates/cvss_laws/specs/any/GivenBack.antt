-- When a vector of any version is given back by its own text.
use Rattle.std.specs.Prelude.{◌≡◌, ◌≢◌, ℕ, []}
use Rattle.cvss_base.specs.Version.{components_of, IsComplete, IsWellFormed}
use Rattle.cvss_vector.specs.v2.Vector.{v2}
use Rattle.cvss_vector.specs.v3.Vector.{v3}
use Rattle.cvss_vector.specs.declared.v3.vector.Vector.{Vector}
use Rattle.cvss_vector.specs.v4.Vector.{v4}
use Rattle.cvss_vector.specs.declared.vector.Cvss.{Cvss}
use Rattle.cvss_vector.specs.declared.vector.Cvss.TheVariants.{CvssV20, CvssV30, CvssV31, CvssV40}

-- the vector has this minor version, and a metric at all
pub record HasVersionAndMetric (minor : ℕ) (vector : Vector) : Type 0 where
  pub version : vector.minor_version ≡ minor
  pub metric : components_of v3 vector ≢ []

-- the vector is well formed, and in CVSS v3 has a metric and the minor version of its variant
abbrev pub IsGivenBack : Cvss → Type 0
IsGivenBack (CvssV20 vector) = IsComplete v2 vector
IsGivenBack (CvssV30 vector) = HasVersionAndMetric 0 vector
IsGivenBack (CvssV31 vector) = HasVersionAndMetric 1 vector
IsGivenBack (CvssV40 vector) = IsWellFormed v4 vector
