use Rattle.cvss_triage.proofs.preferring.preferred.Goals as goal

pub returns-in-Of-clause-picked : goal.returns-in-Of-clause-picked
returns-in-Of-clause-picked c = λ overrides own.
    rw c.in-Of.is (c.only_of.ensures.picked overrides c.args.rules.now.scoring c.args.rules.now.allow_incomplete)
