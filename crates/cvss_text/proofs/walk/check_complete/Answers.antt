use Rattle.cvss_text.proofs.WalkLemmas.{IsReadLeft-complete, IsReadLeft-missing}
use Rattle.cvss_text.proofs.walk.check_complete.Goals as goal

pub returns-in-Some : goal.returns-in-Some
returns-in-Some g c = λ left empty components front.
    IsReadLeft-missing g.V.Components.version g.met.V.Components.version_laws left c.args.vector.now components empty c.in-Some.kind c.in-Some.ensures

pub returns-in-None : goal.returns-in-None
returns-in-None g c = λ left empty components front.
    IsReadLeft-complete g.V.Components.version g.met.V.Components.version_laws left c.args.vector.now components empty front c.in-None.ensures
