use Rattle.cvss_json.proofs.DecimalLemmas.{shortest}
use Rattle.cvss_json.proofs.laws.decimals_are_shortest.Goals as goal

pub returns : goal.returns
returns c = shortest
