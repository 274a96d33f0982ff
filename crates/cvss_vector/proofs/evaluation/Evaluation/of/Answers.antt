use Rattle.std.proofs.Common.{ap, refl, option_map}
use Rattle.cvss_vector.specs.declared.vector.Cvss.TheVariants.{CvssV40}
use Rattle.cvss_vector.specs.private.Tenths.{rated_by}
use Rattle.cvss_vector.proofs.evaluation.Evaluation.of.Goals as goal

pub returns-in-CvssV40 : goal.returns-in-CvssV40
returns-in-CvssV40 c =
    let tenths = c.tenths_of_v4.ensures in
    rw (c.evaluation_of-in-CvssV40.ensures, c.in-CvssV40.is) (record {
      version = refl;
      overall = record { scored = tenths.overall.scored; rating = refl; to_ten = tenths.overall.to_ten };
      base = record { scored = tenths.base.scored; rating = refl; to_ten = tenths.base.to_ten };
      temporal = ap (option_map (rated_by (CvssV40 c.in-CvssV40.vector))) tenths.temporal;
      environmental = ap (option_map (rated_by (CvssV40 c.in-CvssV40.vector))) tenths.environmental;
      missing = refl;
    })
