use Rattle.cvss_base.specs.Text.{pieces}
use Rattle.cvss_text.proofs.walk.read_text.Goals as goal

pub returns : goal.returns
returns g c = c.check_complete.ensures (pieces c.args.text.now) c.args.vector.now c.in_ok-read_components.ensures.components c.in_ok-read_components.ensures.front
