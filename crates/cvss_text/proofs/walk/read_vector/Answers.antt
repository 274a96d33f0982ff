use Rattle.std.proofs.Common.{Ok, Err}
use Rattle.cvss_text.proofs.FrontLemmas.{IsAnswerBare-left}
use Rattle.cvss_text.proofs.walk.read_vector.Goals as goal

pub returns-in-Ok : goal.returns-in-Ok
returns-in-Ok g c =
    IsAnswerBare-left g.V.Components.version g.met.V.Components.version_laws c.args.text.now c.args.empty c.requires.frontless (Ok tt) c.read_text.new.vector c.in-Ok.ensures

pub returns-in-Err : goal.returns-in-Err
returns-in-Err g c =
    IsAnswerBare-left g.V.Components.version g.met.V.Components.version_laws c.args.text.now c.args.empty c.requires.frontless (Err c.in-Err.fault) c.read_text.new.vector c.in-Err.ensures
