use Rattle.std.proofs.Common.{◌≡◌, [], ◌∷◌, ◌++◌, OnOk, IfErr, ap, sym, ◌∙◌, subst, arith}
use Rattle.std.proofs.lemmas.Bool.Decides.{nat_tests}
use Rattle.std.proofs.lemmas.List.{nil_from_length}
use Rattle.cvss_lines.specs.Lines.{line_text}
use Rattle.cvss_lines.specs.private.Steps.{Answers, StopsAnswering}
use Rattle.cvss_lines.specs.declared.fault.RunFault.TheVariants.{Memory}
use Rattle.cvss_lines.proofs.StepsLemmas.{StopsAnswering-memory, none_ok, reported_fault}
use Rattle.cvss_lines.proofs.pending.Pending.end_line.Goals as goal

pub returns-then-is_empty-clause-answered : goal.returns-then-is_empty-clause-answered
returns-then-is_empty-clause-answered g c =
    let none : c.args.self.now.cut.items ≡ [] = nil_from_length _ (grind (arith, nat_tests)) in
    subst
    (λ line. OnOk c.answer_line.result (Answers (g.S.Service.rule c.args.service.now) (g.S.Service.beginning c.args.service.now) (line ∷ [])
    (g.W.Write.contents c.args.writer.now) (g.W.Write.contents c.answer_line.new.writer) c.args.self.now.progress c.answer_line.new.self))
    (c.line_text.ensures ∙ ap (λ cut. line_text (cut ++ c.args.piece.now)) (sym none)) c.answer_line.ensures.answered

pub returns-in_err-extend_from_slice-clause-stopped : goal.returns-in_err-extend_from_slice-clause-stopped
returns-in_err-extend_from_slice-clause-stopped g c =
    reported_fault c.from_residual.result Memory _ c.from_residual.ensures.1
    (StopsAnswering-memory (g.S.Service.rule c.args.service.now) (g.S.Service.beginning c.args.service.now) _ _ c.args.self.now.progress)

pub returns-then-is_empty-clause-stopped : goal.returns-then-is_empty-clause-stopped
returns-then-is_empty-clause-stopped g c =
    let none : c.args.self.now.cut.items ≡ [] = nil_from_length _ (grind (arith, nat_tests)) in
    subst
    (λ line. IfErr c.answer_line.result (StopsAnswering (g.S.Service.rule c.args.service.now) (g.S.Service.beginning c.args.service.now) (line ∷ [])
    (g.W.Write.contents c.args.writer.now) (g.W.Write.contents c.answer_line.new.writer) c.args.self.now.progress))
    (c.line_text.ensures ∙ ap (λ cut. line_text (cut ++ c.args.piece.now)) (sym none)) c.answer_line.ensures.stopped

pub returns-in_err-extend_from_slice-clause-answered : goal.returns-in_err-extend_from_slice-clause-answered
returns-in_err-extend_from_slice-clause-answered g c = none_ok _ c.from_residual.result c.from_residual.ensures.0

pub returns-in_err-extend_from_slice-clause-cut : goal.returns-in_err-extend_from_slice-clause-cut
returns-in_err-extend_from_slice-clause-cut g c = none_ok _ c.from_residual.result c.from_residual.ensures.0

pub returns-in_err-answer_line-clause-answered : goal.returns-in_err-answer_line-clause-answered
returns-in_err-answer_line-clause-answered g c = none_ok _ c.from_residual-in_err-answer_line.result c.from_residual-in_err-answer_line.ensures.0

pub returns-in_err-answer_line-clause-cut : goal.returns-in_err-answer_line-clause-cut
returns-in_err-answer_line-clause-cut g c = none_ok _ c.from_residual-in_err-answer_line.result c.from_residual-in_err-answer_line.ensures.0

pub returns-clause-stopped : goal.returns-clause-stopped
returns-clause-stopped g c = tt

pub returns-clause-cut : goal.returns-clause-cut
returns-clause-cut g c = c.clear.ensures.items
