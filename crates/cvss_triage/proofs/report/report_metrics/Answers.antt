use Rattle.std.proofs.Common.{◌∙◌}
use Rattle.cvss_triage.proofs.ReadsLemmas.{unknown_kept, unknown_told}
use Rattle.cvss_triage.proofs.report.report_metrics.Goals as goal

pub returns-in_ok-unknown_text : goal.returns-in_ok-unknown_text
returns-in_ok-unknown_text g c =
    unknown_told c.for_all_versions.result c.holds_for_some.result _ _ _ _ _ c.holds_for_some.ensures c.if-not-holds_for_some.true c.for_all_versions.ensures
    (c.deref.ensures.value ∙ c.in_ok-unknown_text.ensures) c.write.ensures

pub returns-else-not-holds_for_some : goal.returns-else-not-holds_for_some
returns-else-not-holds_for_some g c =
    unknown_kept c.for_all_versions.result c.holds_for_some.result _ _ _ c.holds_for_some.ensures c.if-not-holds_for_some.false c.for_all_versions.ensures
