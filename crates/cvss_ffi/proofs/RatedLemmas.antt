-- The scores of a vector and their severities as numbers.
use Rattle.std.proofs.Common.{◌≡◌, ◌≤◌, ℕ, ℤ, pos, Option, Some, None, ap, arith}
use Rattle.std.proofs.lemmas.Int.{ints}
use Rattle.cvss_vector.specs.Answers.{score_of_tenths}
use Rattle.cvss_vector.specs.Evaluation.{IsGroupScore, IsOptional, IsRated}
use Rattle.cvss_vector.specs.declared.evaluation.Rated.{Rated}
use Rattle.cvss_vector.specs.declared.group.Group.TheVariants.{Base, Temporal, Environmental}
use Rattle.cvss_vector.specs.declared.vector.Cvss.{Cvss}
use Rattle.cvss_vector.specs.declared.vector.Cvss.TheVariants.{CvssV20, CvssV30, CvssV31, CvssV40}
use Rattle.cvss_ffi.specs.Scores.{IsRatedGroup, IsRatedScore, IsScoreInTenths, severity_number}
use Rattle.cvss_ffi.specs.private.Rated.{AreNumbersIf, AreNumbersOf}

-- a score from 0 to 100 tenths, given as a number
pub in_tenths : (IsCount : ℤ → Type 0) (tenths : ℕ) (given : ℤ) → given ≡ pos tenths → IsCount (score_of_tenths tenths) → tenths ≤ 100 → IsScoreInTenths IsCount given
in_tenths IsCount tenths given same scored to_ten =
    rw same (record { is_score = scored; range = record { from_zero = omega (arith, ints); to_ten = omega (arith, ints, to_ten) } })

pub rated_score : (cvss : Cvss) (IsCount : ℤ → Type 0) (rated : Rated) (tenths severity : ℤ) → IsRated cvss IsCount rated → AreNumbersOf rated tenths severity → IsRatedScore cvss IsCount tenths severity
rated_score cvss IsCount rated tenths severity is are =
    record {
      score = in_tenths IsCount rated.tenths tenths are.tenths_is is.scored is.to_ten;
      severity_is = rw (are.tenths_is, are.severity_is) (ap severity_number is.rating);
    }

pub rated_base : (cvss : Cvss) (tenths severity : ℤ) → IsRatedScore cvss (IsGroupScore cvss Base) tenths severity → IsRatedGroup cvss Base tenths severity
rated_base (CvssV20 v) tenths severity is = is
rated_base (CvssV30 v) tenths severity is = is
rated_base (CvssV31 v) tenths severity is = is
rated_base (CvssV40 v) tenths severity is = is

pub rated_temporal : (cvss : Cvss) (found : Option Rated) (tenths severity : ℤ) → IsOptional cvss Temporal found → AreNumbersIf found tenths severity → IsRatedGroup cvss Temporal tenths severity
rated_temporal (CvssV20 v) (Some rated) tenths severity is are = rated_score _ _ rated tenths severity is are
rated_temporal (CvssV30 v) (Some rated) tenths severity is are = rated_score _ _ rated tenths severity is are
rated_temporal (CvssV31 v) (Some rated) tenths severity is are = rated_score _ _ rated tenths severity is are
rated_temporal (CvssV40 v) (Some rated) tenths severity is are = absurd (let no : Some rated ≡ None = is in cc)
rated_temporal (CvssV20 v) None tenths severity is are = absurd is
rated_temporal (CvssV30 v) None tenths severity is are = absurd is
rated_temporal (CvssV31 v) None tenths severity is are = absurd is
rated_temporal (CvssV40 v) None tenths severity is are = are

pub rated_environmental : (cvss : Cvss) (found : Option Rated) (tenths severity : ℤ) → IsOptional cvss Environmental found → AreNumbersIf found tenths severity → IsRatedGroup cvss Environmental tenths severity
rated_environmental (CvssV20 v) (Some rated) tenths severity is are = rated_score _ _ rated tenths severity is are
rated_environmental (CvssV30 v) (Some rated) tenths severity is are = rated_score _ _ rated tenths severity is are
rated_environmental (CvssV31 v) (Some rated) tenths severity is are = rated_score _ _ rated tenths severity is are
rated_environmental (CvssV40 v) (Some rated) tenths severity is are = absurd (let no : Some rated ≡ None = is in cc)
rated_environmental (CvssV20 v) None tenths severity is are = absurd is
rated_environmental (CvssV30 v) None tenths severity is are = absurd is
rated_environmental (CvssV31 v) None tenths severity is are = absurd is
rated_environmental (CvssV40 v) None tenths severity is are = are
