use Rattle.std.proofs.Common.{◌∙◌, refl}
use Rattle.cvss_triage.proofs.ReadsLemmas.{unknown_kept, unknown_told}
use Rattle.cvss_triage.proofs.report.report_override.Goals as goal

pub returns-in_ok-unknown_line_text : goal.returns-in_ok-unknown_line_text
returns-in_ok-unknown_line_text g c =
    unknown_told c.args.it c.holds_for_some.result _ _ _ _ _ c.holds_for_some.ensures c.if-not-holds_for_some.true refl
    (c.deref.ensures.value ∙ c.in_ok-unknown_line_text.ensures) c.write.ensures

pub returns-else-not-holds_for_some : goal.returns-else-not-holds_for_some
returns-else-not-holds_for_some g c =
    unknown_kept c.args.it c.holds_for_some.result _ _ _ c.holds_for_some.ensures c.if-not-holds_for_some.false refl
