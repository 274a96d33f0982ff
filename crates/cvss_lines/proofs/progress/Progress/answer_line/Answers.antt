use Rattle.cvss_lines.proofs.StepsLemmas.{Stands_line, Stops_line, reported_fault}
use Rattle.cvss_lines.proofs.progress.Progress.answer_line.Goals as goal

pub returns-in_err-accepted-clause-stopped : goal.returns-in_err-accepted-clause-stopped
returns-in_err-accepted-clause-stopped g c =
    reported_fault c.from_residual.result c.in_err-accepted.field-0.0 _ c.from_residual.ensures.1
    (λ start lines s. Stops_line (g.S.Service.rule c.args.service.now) (g.S.Service.beginning c.args.service.now) start (g.W.Write.contents c.args.writer.now)
    (g.W.Write.contents c.serve_line.new.writer) lines c.args.self.now s c.args.line.now _ c.in_err-accepted.ensures.stopped)

pub returns-clause-answered : goal.returns-clause-answered
returns-clause-answered g c = λ start lines s. Stands_line (g.S.Service.rule c.args.service.now) (g.S.Service.beginning c.args.service.now) start (g.W.Write.contents c.args.writer.now)
    (g.W.Write.contents c.serve_line.new.writer) lines c.args.self.now s _ c.args.line.now c.in_ok-accepted.accepted c.in_ok-accepted.ensures.streamed c.count.ensures c.saturating_add-self.ensures
