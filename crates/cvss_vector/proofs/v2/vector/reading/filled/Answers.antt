use Rattle.cvss_text.proofs.PutLemmas.{put_at}
use Rattle.cvss_vector.specs.v2.Vector.{v2}
use Rattle.cvss_vector.specs.v2.private.VectorLaws.{v2_laws, elsewhere_kept}
use Rattle.cvss_vector.proofs.v2.vector.reading.filled.Goals as goal

pub returns : goal.returns
returns c = put_at v2 v2_laws c.requires.here c.requires.filled (rw c.requires.kept (elsewhere_kept c.args.here _ _))
