use Rattle.std.proofs.Common.{ap, inl, inr, refl, subst, ◌∙◌, Err}
use Rattle.std.proofs.lemmas.Result.{IfOk-weaker}
use Rattle.cvss_frame.specs.Exit.{after}
use Rattle.cvss_frame.specs.Reports.{reported}
use Rattle.cvss_frame.specs.Streams.{state}
use Rattle.cvss_lines.specs.declared.fault.RunFault.TheVariants.{Read}
use Rattle.cvss_triage.specs.Reports.{ReportsEach, ReportsSetting}
use Rattle.cvss_triage.specs.Settings.{AreUnderstood, all_given}
use Rattle.cvss_triage.specs.Triage.{IsRanked, asked_of}
use Rattle.cvss_triage.specs.private.Steps.{AreOwnMetrics}
use Rattle.cvss_triage.proofs.triage.outcome_of.Goals as goal

pub returns-in_default-clause-outcome : goal.returns-in_default-clause-outcome
returns-in_default-clause-outcome g c =
    let texts = c.in_ok-texts.texts.items in
    let overrides = c.in_ok-overrides.overrides.items in
    inr (record {
      read = state c.read_settings.new.streams;
      texts = texts;
      overrides = overrides;
      gives = record { read = c.in_ok-texts.ensures.read; are = c.in_ok-overrides.ensures ∙ ap all_given c.deref.ensures.value };
      reported = record {
        reported = subst (λ texts. ReportsEach ReportsSetting texts (reported g.H.Errors.Write.contents c.read_settings.new.streams.errors) (reported g.H.Errors.Write.contents c.report_unknown.new.report)) c.deref-in_default.ensures.value c.in_ok-report_unknown.ensures;
        else_kept = refl;
      };
      why = subst (λ texts. ¬ (AreUnderstood texts overrides)) c.deref-2.ensures.value
          (subst (λ overrides. ¬ (AreUnderstood c.deref-2.result.now overrides)) c.deref-3.ensures.value c.in_default.ensures);
      text_is = c.new.ensures.items;
      served_is = c.after.ensures ∙ ap (λ served. after served (Err Read)) c.nothing.ensures;
    })

pub returns-clause-outcome : goal.returns-clause-outcome
returns-clause-outcome g c =
    let asked = asked_of c.args.asked.now in
    let operands = c.args.operands.now in
    let texts = c.in_ok-texts.texts.items in
    let overrides = c.in_ok-overrides.overrides.items in
    let old = reported g.H.Errors.Write.contents c.read_inputs.new.streams.errors in
    let new = reported g.H.Errors.Write.contents c.ranked.new.report in
    IfOk-weaker c.ranked.result _ _
    (λ outcome is. inl (record {
      set = state c.read_settings.new.streams;
      texts = texts;
      overrides = overrides;
      gives = record { read = c.in_ok-texts.ensures.read; are = c.in_ok-overrides.ensures ∙ ap all_given c.deref.ensures.value };
      understood = subst (λ texts. AreUnderstood texts overrides) c.deref-2.ensures.value
          (subst (λ overrides. AreUnderstood c.deref-2.result.now overrides) c.deref-3.ensures.value c.in-Some.ensures.0);
      read = state c.read_inputs.new.streams;
      inputs = c.in_ok-inputs.inputs.items;
      reads = c.in_ok-inputs.ensures.read;
      ranked = record {
        reported = subst (λ inputs. IsRanked asked overrides operands inputs old new outcome.text.items outcome.served) c.deref-4.ensures.value is;
        else_kept = refl;
      };
    }))
    (c.ranked.ensures overrides (subst (λ overrides. AreOwnMetrics overrides c.in-Some.own) c.deref-3.ensures.value c.in-Some.ensures.1))
