-- The scores of an evaluation that the version has or not.
use Rattle.std.proofs.Common.{◌≤◌, Option, Some, None, IfSome}
use Rattle.cvss_vector.specs.Evaluation.{IsOptional}
use Rattle.cvss_vector.specs.declared.group.Group.{Group}
use Rattle.cvss_vector.specs.declared.evaluation.Rated.{Rated}
use Rattle.cvss_vector.specs.declared.vector.Cvss.{Cvss}
use Rattle.cvss_vector.specs.declared.vector.Cvss.TheVariants.{CvssV20, CvssV30, CvssV31, CvssV40}

-- each is at most ten
pub optional_to_ten : (cvss : Cvss) (group : Group) (found : Option Rated) → IsOptional cvss group found → IfSome found (λ rated. rated.tenths ≤ 100)
optional_to_ten cvss group None is = tt
optional_to_ten (CvssV20 v) group (Some rated) is = is.to_ten
optional_to_ten (CvssV30 v) group (Some rated) is = is.to_ten
optional_to_ten (CvssV31 v) group (Some rated) is = is.to_ten
optional_to_ten (CvssV40 v) group (Some rated) is = absurd (cc)
