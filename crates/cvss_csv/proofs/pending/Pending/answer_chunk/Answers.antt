use Rattle.std.proofs.Common.{ap, refl, sym, ◌∙◌}
use Rattle.cvss_csv.specs.Fields.{state_after}
use Rattle.cvss_csv.specs.declared.state.State.TheVariants.{Start}
use Rattle.cvss_csv.proofs.ReadsLemmas.{HasRead_all, HasRead_record, HasRead_start, HasRead_stopped, piece_is_closed, state_kept, reported_fault}
use Rattle.cvss_csv.proofs.pending.Pending.answer_chunk.Goals as goal

pub loop-piece-init : goal.loop-piece-init
loop-piece-init c = record { state_is = c.requires; read = HasRead_start c.args.column c.args.chunk.now c.args.self.now }

pub end_record-requires : goal.end_record-requires
end_record-requires c = piece_is_closed c.loop-piece.self.cut.items c.in-Ok.piece.now c.loop-piece.rest.now c.in-Ok.following.now _ c.loop-piece.invariant.state_is c.in-Ok.ensures

pub returns-in_err-end_record-in-Ok-clause-stopped : goal.returns-in_err-end_record-in-Ok-clause-stopped
returns-in_err-end_record-in-Ok-clause-stopped c =
    reported_fault c.from_residual.result c.in_err-end_record-in-Ok.field-0.0 _ c.from_residual.ensures.1
    (HasRead_stopped c.args.column c.args.chunk.now c.loop-piece.rest.now c.args.self.now c.loop-piece.self c.loop-piece.invariant.read c.in-Ok.piece.now c.in-Ok.following.now c.in-Ok.ensures
    _ c.in_err-end_record-in-Ok.ensures.stopped)

pub loop-piece-preserved : goal.loop-piece-preserved
loop-piece-preserved c =
    let ended = c.in_ok-end_record-in-Ok.ensures in
    record {
      state_is = ap (state_after Start) ended.cut ∙ sym ended.state;
      read = HasRead_record c.args.column c.args.chunk.now c.loop-piece.rest.now c.args.self.now c.loop-piece.self c.loop-piece.invariant.read c.in-Ok.piece.now c.in-Ok.following.now c.in-Ok.ensures
          c.end_record.new.self ended.answered ended.cut ended.state;
    }

pub returns-in-Err-clause-answered : goal.returns-in-Err-clause-answered
returns-in-Err-clause-answered c =
    HasRead_all c.args.column c.args.chunk.now c.loop-piece.rest.now c.args.self.now c.loop-piece.self c.loop-piece.invariant.read c.in-Err.after _ c.in-Err.ensures
    refl c.in_ok-extend_from_slice-in-Err.ensures.items refl

pub returns-in-Err-clause-state : goal.returns-in-Err-clause-state
returns-in-Err-clause-state c =
    ap (state_after Start) c.in_ok-extend_from_slice-in-Err.ensures.items
    ∙ state_kept c.loop-piece.self.cut.items c.loop-piece.rest.now _ c.in-Err.after c.loop-piece.invariant.state_is c.in-Err.ensures
