use Rattle.std.proofs.Common.{subst}
use Rattle.std.proofs.lemmas.Result.{IfOk-weaker}
use Rattle.std.specs.List.{list_any}
use Rattle.cvss_frame.specs.Reports.{reported}
use Rattle.cvss_triage.specs.Inputs.{lacks_column}
use Rattle.cvss_triage.specs.Reports.{ReportsLacking}
use Rattle.cvss_triage.specs.Triage.{RanksLines, asked_of}
use Rattle.cvss_triage.proofs.triage.ranked.Goals as goal

pub returns : goal.returns
returns g c = λ overrides are.
    let asked = c.args.asked.now in
    let operands = c.args.operands.now in
    let old = reported g.E.Write.contents c.args.report.now in
    let missed = reported g.E.Write.contents c.report_lacking.new.report in
    let new = reported g.E.Write.contents c.ranked_lines.new.report in
    IfOk-weaker c.ranked_lines.result _ _
    (λ outcome is. record {
      inputs = c.in_ok-inputs.inputs.items;
      are = c.in_ok-inputs.ensures;
      missed = missed;
      misses = subst (λ inputs. ReportsLacking (list_any lacks_column inputs) asked.column old missed) c.deref.ensures.value c.report_lacking.ensures;
      ranks = subst (λ inputs. RanksLines (asked_of asked) overrides operands inputs missed new outcome.text.items outcome.served) c.deref-2.ensures.value is;
    })
    (c.ranked_lines.ensures overrides are)
