use Rattle.cvss_score.proofs.v3.weights.Weights.base.Goals as goal

pub returns-clause-value : goal.returns-clause-value
returns-clause-value c = (c.base_units.ensures.value c.args.minor_version).rounds _ (rw c.of.ensures at c.round_tenths.ensures.value)
