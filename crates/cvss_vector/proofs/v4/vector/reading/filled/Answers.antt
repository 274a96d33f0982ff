use Rattle.cvss_text.proofs.PutLemmas.{put_at}
use Rattle.cvss_vector.specs.v4.Vector.{v4}
use Rattle.cvss_vector.specs.v4.private.VectorLaws.{v4_laws, elsewhere_kept}
use Rattle.cvss_vector.proofs.v4.vector.reading.filled.Goals as goal

pub returns : goal.returns
returns c = put_at v4 v4_laws c.requires.here c.requires.filled (rw c.requires.kept (elsewhere_kept c.args.here _ _))
