use Rattle.std.proofs.Common.{inl, inr}
use Rattle.std.proofs.lemmas.Result.{err_from_is_err_and}
use Rattle.cvss_vector.specs.v4.TriageFaults.{InOverride, InText}
use Rattle.cvss_vector.proofs.v4.triage.rank.apply.Goals as goal

pub returns-in_err-overrides-clause-rejected : goal.returns-in_err-overrides-clause-rejected
returns-in_err-overrides-clause-rejected c =
    let exit = err_from_is_err_and c.from_residual.result c.from_residual.ensures.1 in
    let rejected = c.in_err-overrides.ensures.rejected in
    rw exit.1 (inr (record {
      fault = InOverride rejected.place rejected.objection;
      first = rejected.first;
      reports = exit.2 rejected.place rejected.objection rejected.reports;
    }))

pub returns-in_err-rows-clause-rejected : goal.returns-in_err-rows-clause-rejected
returns-in_err-rows-clause-rejected c =
    let exit = err_from_is_err_and c.from_residual-in_err-rows.result c.from_residual-in_err-rows.ensures.1 in
    rw (exit.1, exit.2) (elim c.in_err-rows.ensures.rejected [
      | inl lacks ↦ inl lacks
      | inr rejected ↦ inr (record {
        fault = InText rejected.place rejected.reason;
        first = (c.in_ok-overrides.ensures.faultless, rejected.first);
        reports = rejected.reports;
      })
    ])

pub returns-clause-rejects : goal.returns-clause-rejects
returns-clause-rejects c =
    elim [ InOverride place objection ↦ c.in_ok-overrides.ensures.rejects place objection | InText place reason ↦ λ is. c.in_ok-rows.ensures.rejects place reason is.1 ]
