use Rattle.cvss_triage.proofs.report.report_setting.Goals as goal

pub returns-in_ok-report_metrics-in-Metrics-Some : goal.returns-in_ok-report_metrics-in-Metrics-Some
returns-in_ok-report_metrics-in-Metrics-Some g c =
    rw (c.in-Metrics-Some.is-0, c.in-Metrics-Some.is-1) (rw c.deref.ensures.value at c.in_ok-report_metrics-in-Metrics-Some.ensures)
