use Rattle.std.proofs.Common.{arith, ap, length}
use Rattle.std.proofs.lemmas.Grind.{common_steps}
use Rattle.cvss_vector.specs.v3.Vector.{v3}
use Rattle.cvss_vector.specs.v4.Vector.{v4}
use Rattle.cvss_report.proofs.ShortLemmas.{fits, short_v3, short_v4, text_short}
use Rattle.cvss_report.proofs.text.put_vector.Goals as goal

pub push_text-requires : goal.push_text-requires
push_text-requires c = omega (arith, c.requires, ap length c.text.ensures, text_short c.in-CvssV20.vector)

pub put_prefixed-requires-clause-fits : goal.put_prefixed-requires-clause-fits
put_prefixed-requires-clause-fits c κs = fits v4 short_v4 c.in-CvssV40.vector (omega arith)

pub put_prefixed-requires-in-CvssV30-clause-fits : goal.put_prefixed-requires-in-CvssV30-clause-fits
put_prefixed-requires-in-CvssV30-clause-fits c κs = fits v3 short_v3 c.in-CvssV30.vector (omega arith)

pub returns-in-CvssV20-clause-room : goal.returns-in-CvssV20-clause-room
returns-in-CvssV20-clause-room c =
    grind (arith, common_steps, c.push_text.ensures, ap length c.text.ensures, text_short c.in-CvssV20.vector)
