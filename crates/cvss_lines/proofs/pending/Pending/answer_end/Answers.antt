use Rattle.std.proofs.Common.{◌<◌, length, arith}
use Rattle.std.proofs.lemmas.Bool.Decides.{nat_tests}
use Rattle.std.proofs.lemmas.List.{nil_from_length}
use Rattle.std.proofs.lemmas.Result.{IfErr-weaker, on_ok_weaker}
use Rattle.cvss_lines.proofs.ReadsLemmas.{EndsInput_line, EndsInput_none, StopsEnding_line}
use Rattle.cvss_lines.proofs.pending.Pending.answer_end.Goals as goal

pub returns-then-is_empty-clause-answered : goal.returns-then-is_empty-clause-answered
returns-then-is_empty-clause-answered g c =
    EndsInput_none (g.S.Service.rule c.args.service.now) (g.S.Service.beginning c.args.service.now) (g.W.Write.contents c.args.writer.now) (g.W.Write.contents c.args.writer.now) c.args.self.now (nil_from_length _ (grind (arith, nat_tests)))

pub returns-then-is_empty-clause-stopped : goal.returns-then-is_empty-clause-stopped
returns-then-is_empty-clause-stopped g c = tt

pub returns-clause-answered : goal.returns-clause-answered
returns-clause-answered g c =
    let some : 0 < length c.args.self.now.cut.items = grind (arith, nat_tests) in
    on_ok_weaker c.end_line.result (EndsInput_line (g.S.Service.rule c.args.service.now) (g.S.Service.beginning c.args.service.now) _ _ c.args.self.now c.end_line.new.self some) c.end_line.ensures.answered

pub returns-clause-stopped : goal.returns-clause-stopped
returns-clause-stopped g c =
    let some : 0 < length c.args.self.now.cut.items = grind (arith, nat_tests) in
    IfErr-weaker c.end_line.result _ _ (λ fault. StopsEnding_line (g.S.Service.rule c.args.service.now) (g.S.Service.beginning c.args.service.now) _ _ c.args.self.now fault some) c.end_line.ensures.stopped
