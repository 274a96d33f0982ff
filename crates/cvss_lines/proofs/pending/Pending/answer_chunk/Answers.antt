use Rattle.std.proofs.Common.{[], ◌∷◌, refl, sym, ap, subst, arith, length, append-nil, length-append}
use Rattle.cvss_lines.specs.private.Steps.{Awaits}
use Rattle.cvss_lines.specs.declared.fault.RunFault.TheVariants.{Memory}
use Rattle.cvss_lines.proofs.ReadsLemmas.{HasRead_all, HasRead_line, HasRead_memory, HasRead_stopped}
use Rattle.cvss_lines.proofs.StepsLemmas.{none_ok, reported_fault}
use Rattle.cvss_lines.proofs.pending.Pending.answer_chunk.Goals as goal

pub loop-piece-preserved : goal.loop-piece-preserved
loop-piece-preserved g c =
    HasRead_line (g.S.Service.rule c.args.service.now) (g.S.Service.beginning c.args.service.now) c.args.chunk.now c.loop-piece.rest.now _ _ c.args.self.now c.loop-piece.self c.loop-piece.invariant
    c.in-Some.piece.now c.in-Some.after.now _ _ c.in-Some.ensures.0 c.in-Some.ensures.1 c.in_ok-end_line.ensures.answered c.in_ok-end_line.ensures.cut

pub returns-in_err-end_line-clause-stopped : goal.returns-in_err-end_line-clause-stopped
returns-in_err-end_line-clause-stopped g c =
    reported_fault c.from_residual.result c.in_err-end_line.field-0.0 _ c.from_residual.ensures.1
    (HasRead_stopped (g.S.Service.rule c.args.service.now) (g.S.Service.beginning c.args.service.now) c.args.chunk.now c.loop-piece.rest.now _ _ c.args.self.now c.loop-piece.self c.loop-piece.invariant
    c.in-Some.piece.now c.in-Some.after.now _ _ c.in-Some.ensures.0 c.in-Some.ensures.1 c.in_err-end_line.ensures.stopped)

pub returns-in_err-extend_from_slice-clause-stopped : goal.returns-in_err-extend_from_slice-clause-stopped
returns-in_err-extend_from_slice-clause-stopped g c =
    reported_fault c.from_residual-in_err-extend_from_slice.result Memory _ c.from_residual-in_err-extend_from_slice.ensures.1
    (HasRead_memory (g.S.Service.rule c.args.service.now) (g.S.Service.beginning c.args.service.now) c.args.chunk.now c.loop-piece.rest.now _ _ c.args.self.now c.loop-piece.self c.loop-piece.invariant c.in_default.ensures)

pub returns-clause-answered : goal.returns-clause-answered
returns-clause-answered g c =
    HasRead_all (g.S.Service.rule c.args.service.now) (g.S.Service.beginning c.args.service.now) c.args.chunk.now c.loop-piece.rest.now _ _ c.args.self.now c.loop-piece.self c.loop-piece.invariant
    _ c.in_default.ensures c.in_ok-extend_from_slice.ensures.items

pub loop-piece-init : goal.loop-piece-init
loop-piece-init g c = record { done = []; whole = refl; reads = λ start read a. subst (λ r. Awaits (g.S.Service.rule c.args.service.now) (g.S.Service.beginning c.args.service.now) start (g.W.Write.contents c.args.writer.now) r c.args.self.now) (sym (append-nil read)) a }

pub loop-piece-smaller : goal.loop-piece-smaller
loop-piece-smaller g c = omega (arith, ap length c.in-Some.ensures.1, length-append c.in-Some.piece.now (10 ∷ c.in-Some.after.now))

pub returns-in_err-end_line-clause-answered : goal.returns-in_err-end_line-clause-answered
returns-in_err-end_line-clause-answered g c = none_ok _ c.from_residual.result c.from_residual.ensures.0

pub returns-in_err-extend_from_slice-clause-answered : goal.returns-in_err-extend_from_slice-clause-answered
returns-in_err-extend_from_slice-clause-answered g c = none_ok _ c.from_residual-in_err-extend_from_slice.result c.from_residual-in_err-extend_from_slice.ensures.0

pub returns-clause-stopped : goal.returns-clause-stopped
returns-clause-stopped g c = tt
