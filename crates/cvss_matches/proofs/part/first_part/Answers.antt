use Rattle.cvss_matches.proofs.PartLemmas.{first_cut}
use Rattle.cvss_matches.proofs.part.first_part.Goals as goal

pub returns-in-Some-clause-cut : goal.returns-in-Some-clause-cut
returns-in-Some-clause-cut c =
    first_cut c.args.text.now _ c.in-Some.rest.now c.uncut_length.result c.in-Some.ensures.cases.0
    (cc (c.begins_run.ensures, c.if-begins_run.true)) c.uncut_length.ensures.value
