use Rattle.std.proofs.Common.{Bor, List, ℕ, ap, ◌∙◌, option_map, subst}
use Rattle.std.proofs.lemmas.Result.{IfOk-weaker}
use Rattle.cvss_frame.specs.Operands.{many_files}
use Rattle.cvss_frame.specs.Reports.{reported}
use Rattle.cvss_triage.specs.Lines.{first_header, lines_of}
use Rattle.cvss_triage.specs.Locations.{starts_of}
use Rattle.cvss_triage.specs.Ranking.{IsRanking}
use Rattle.cvss_triage.specs.Reports.{ReportsBadLine, ReportsEach}
use Rattle.cvss_triage.specs.Triage.{PrintsIf, asked_of, served_of, shows}
use Rattle.cvss_triage.specs.private.Steps.{rows_of}
use Rattle.cvss_triage.proofs.triage.ranked_lines.Goals as goal

pub returns : goal.returns
returns g c = λ overrides are.
    let asked = c.args.asked.now in
    let operands = c.args.operands.now in
    let inputs = c.args.inputs.now in
    let many = many_files operands in
    let rows = lines_of asked.form inputs in
    let starts = starts_of asked.form inputs in
    let ranking = c.in_ok-ranking.ranking in
    let bad = ranking.bad.items in
    let old = reported g.E.Write.contents c.args.report.now in
    let new = reported g.E.Write.contents c.report_bad.new.report in
    let lines = ap rows_of c.deref.ensures.value ∙ c.in_ok-lines.ensures.lines in
    let lines_again = ap rows_of c.deref-2.ensures.value ∙ c.in_ok-lines.ensures.lines in
    let started = c.deref-3.ensures.value ∙ c.in_ok-lines.ensures.starts in
    let read = c.served_of-read.ensures ∙ ap (λ bad. served_of bad inputs) c.deref-5.ensures.value in
    let known = served_of bad inputs in
    let top = first_header asked.form inputs in
    let style = c.of-style.result in
    IfOk-weaker c.printed.result _ _
    (λ outcome is. record {
      ranking = ranking;
      is = subst (λ rows. IsRanking asked.prefer overrides asked.scoring asked.allow_incomplete rows ranking) lines (c.in_ok-ranking.ensures.ranking overrides are);
      reported =
          subst (λ rows. ReportsEach (ReportsBadLine asked.form rows starts many operands) bad old new) lines_again
          (subst (λ starts. ReportsEach (ReportsBadLine asked.form (rows_of c.deref-2.result.now) starts many operands) bad old new) started
          (subst (λ many. ReportsEach (ReportsBadLine asked.form (rows_of c.deref-2.result.now) c.deref-3.result.now many operands) bad old new) c.are_many.ensures
          (subst (λ bad. ReportsEach (ReportsBadLine asked.form (rows_of c.deref-2.result.now) c.deref-3.result.now c.are_many.result operands) bad old new) c.deref-4.ensures.value c.in_ok-report_bad.ensures)));
      prints =
          subst (λ style. PrintsIf (shows asked.keep_going known) (asked_of asked) style top starts many operands ranking known outcome.text.items outcome.served) c.of-style.ensures
          (subst (λ top. PrintsIf (shows asked.keep_going known) (asked_of asked) style top starts many operands ranking known outcome.text.items outcome.served) c.first_header-top.ensures
          (subst (λ starts. PrintsIf (shows asked.keep_going known) (asked_of asked) style (option_map (λ (line : Bor (List ℕ)). line.now) c.first_header-top.result) starts many operands ranking known outcome.text.items outcome.served) started
          (subst (λ many. PrintsIf (shows asked.keep_going known) (asked_of asked) style (option_map (λ (line : Bor (List ℕ)). line.now) c.first_header-top.result) c.deref-3.result.now many operands ranking known outcome.text.items outcome.served) c.are_many.ensures
          (subst (λ read. PrintsIf (shows asked.keep_going read) (asked_of asked) style (option_map (λ (line : Bor (List ℕ)). line.now) c.first_header-top.result) c.deref-3.result.now c.are_many.result operands ranking read outcome.text.items outcome.served) read is))));
    })
    c.printed.ensures
