use Rattle.cvss_examples.proofs.json.text_of.Goals as goal

pub returns-in_err-from_value-clause-accepts : goal.returns-in_err-from_value-clause-accepts
returns-in_err-from_value-clause-accepts c =
    λ cvss stands. let given = c.in_err-from_value.ensures.accepts cvss stands in absurd cc
