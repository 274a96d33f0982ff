use Rattle.std.proofs.Common.{subst, sym}
use Rattle.std.proofs.lemmas.Result.{err_from_is_err_and}
use Rattle.cvss_triage.proofs.RankLemmas.{reason_by}
use Rattle.cvss_triage.specs.Reading.{IsReason}
use Rattle.cvss_triage.proofs.ranking.row_of.Goals as goal

pub returns-in_err-chosen-clause-reason : goal.returns-in_err-chosen-clause-reason
returns-in_err-chosen-clause-reason c = λ overrides own.
    let rules = c.args.rules.now in
    let Is = IsReason rules.prefer overrides rules.scoring rules.allow_incomplete c.args.searched.now in
    let exit = err_from_is_err_and c.from_residual.result c.from_residual.ensures.1 in
    rw exit.1
    (subst Is (sym exit.2) (c.in_err-chosen.ensures.reason overrides own))

pub returns-in-Some-clause-reason : goal.returns-in-Some-clause-reason
returns-in-Some-clause-reason c = λ overrides own.
    let rules = c.args.rules.now in
    reason_by rules.prefer overrides rules.scoring rules.allow_incomplete (record { bytes = c.args.line.now; searched = c.args.searched.now }) c.in_ok-chosen.field-0 (c.in_ok-chosen.ensures.vector overrides own)
    c.in_vector-vector.result c.in-Some.metric (c.in_vector-vector.ensures.own overrides own) (sym c.in-Some.ensures)
