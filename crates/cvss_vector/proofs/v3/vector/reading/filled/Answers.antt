use Rattle.cvss_text.proofs.PutLemmas.{put_at}
use Rattle.cvss_vector.specs.v3.Vector.{v3}
use Rattle.cvss_vector.specs.v3.private.VectorLaws.{v3_laws, elsewhere_kept}
use Rattle.cvss_vector.proofs.v3.vector.reading.filled.Goals as goal

pub returns : goal.returns
returns c = put_at v3 v3_laws c.requires.here c.requires.filled (rw c.requires.kept (elsewhere_kept c.args.here _ _))
