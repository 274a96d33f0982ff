use Rattle.std.proofs.Common.{[], refl}
use Rattle.cvss_text.proofs.WalkLemmas.{AreComponentsOf-none}
use Rattle.cvss_text.proofs.front.read_left.Goals as goal

pub returns-in-None : goal.returns-in-None
returns-in-None g c =
    rw c.in-None.ensures (c.check_complete.ensures [] c.args.vector.now (AreComponentsOf-none g.V.Components.version g.met.V.Components.version_laws c.args.vector.now c.requires) refl)
