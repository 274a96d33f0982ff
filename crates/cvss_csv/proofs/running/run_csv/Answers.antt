use Rattle.std.proofs.Common.{take, drop, length, arith, ◌∙◌, take_at}
use Rattle.std.proofs.KnownBytes.{Keeps-refl}
use Rattle.cvss_csv.specs.Runs.{Ends}
use Rattle.cvss_csv.proofs.RunLemmas.{Between_chunk, Between_start, Ends_chunk, Ends_cut, Ends_last, Ends_memory, Ends_unread, Ends_well, after_chunk, all_read, at_end, reported}
use Rattle.cvss_csv.proofs.running.run_csv.Goals as goal

pub returns-in_err-chunk : goal.returns-in_err-chunk
returns-in_err-chunk g c =
    let new = c.new-pending.ensures in
    let b = Between_start c.new-pending.result new.cut new.state new.asked new.cells new.answers new.summary in
    reported c.from_residual.result _ (Ends c.args.asked c.args.column _ _ _ _) c.from_residual.ensures.1 (Ends_memory b (Keeps-refl _))

pub loop-init : goal.loop-init
loop-init g c =
    let new = c.new-pending.ensures in
    record {
      room = omega (arith, c.in_ok-chunk.ensures);
      between = Between_start c.new-pending.result new.cut new.state new.asked new.cells new.answers new.summary;
    }

pub answer_end-requires : goal.answer_end-requires
answer_end-requires g c = c.loop.invariant.between.state_is

pub answer_chunk-requires : goal.answer_chunk-requires
answer_chunk-requires g c = c.loop.invariant.between.state_is

pub returns-in_err-answer_end : goal.returns-in_err-answer_end
returns-in_err-answer_end g c =
    let b = c.loop.invariant.between in
    let end = at_end b _ _ c.in-Ok.ensures.bytes c.if-count-eq0.true (omega arith) in
    reported c.from_residual-in_err-answer_end.result _ (Ends c.args.asked c.args.column _ _ _ _) c.from_residual-in_err-answer_end.ensures.1
    (Ends_last b _ end (c.in_err-answer_end.ensures.stopped c.args.asked b.passed b.input b.awaits))

pub returns-in_err-write_out : goal.returns-in_err-write_out
returns-in_err-write_out g c =
    let b = c.loop.invariant.between in
    let end = at_end b _ _ c.in-Ok.ensures.bytes c.if-count-eq0.true (omega arith) in
    reported c.from_residual-in_err-write_out.result _ (Ends c.args.asked c.args.column _ _ _ _) c.from_residual-in_err-write_out.ensures.1
    (Ends_cut b _ _ _ (all_read b.input end) (c.in_ok-answer_end.ensures.answered c.args.asked b.passed b.input b.awaits) c.in_err-write_out.ensures.cut)

pub returns-then-count-eq0 : goal.returns-then-count-eq0
returns-then-count-eq0 g c =
    let b = c.loop.invariant.between in
    let end = at_end b _ _ c.in-Ok.ensures.bytes c.if-count-eq0.true (omega arith) in
    Ends_well b _ end (c.in_ok-answer_end.ensures.answered c.args.asked b.passed b.input b.awaits) c.in_ok-write_out.ensures.written

pub returns-in_err-answer_chunk : goal.returns-in_err-answer_chunk
returns-in_err-answer_chunk g c =
    let b = c.loop.invariant.between in
    let chunk = take c.in-Ok.count c.deref.result.now in
    let is = c.deref.ensures.value ∙ take_at c.read.new.buf (drop (length c.read.new.buf) c.loop.chunk.items) c.loop.chunk.len (omega arith) in
    reported c.from_residual-in_err-answer_chunk.result _ (Ends c.args.asked c.args.column _ _ _ _) c.from_residual-in_err-answer_chunk.ensures.1
    (Ends_chunk b chunk _ (rw is c.in-Ok.ensures.bytes.0) (c.in_err-answer_chunk.ensures.stopped c.args.asked b.passed b.input b.awaits))

pub returns-in_err-write_out-2 : goal.returns-in_err-write_out-2
returns-in_err-write_out-2 g c =
    let b = c.loop.invariant.between in
    let chunk = take c.in-Ok.count c.deref.result.now in
    let is = c.deref.ensures.value ∙ take_at c.read.new.buf (drop (length c.read.new.buf) c.loop.chunk.items) c.loop.chunk.len (omega arith) in
    reported c.from_residual-in_err-write_out-2.result _ (Ends c.args.asked c.args.column _ _ _ _) c.from_residual-in_err-write_out-2.ensures.1
    (Ends_cut b _ _ _ (after_chunk b chunk (rw is c.in-Ok.ensures.bytes.0)) (c.in_ok-answer_chunk.ensures.answered c.args.asked b.passed b.input b.awaits).has_answered c.in_err-write_out-2.ensures.cut)

pub loop-preserved : goal.loop-preserved
loop-preserved g c =
    let b = c.loop.invariant.between in
    let chunk = take c.in-Ok.count c.deref.result.now in
    let is = c.deref.ensures.value ∙ take_at c.read.new.buf (drop (length c.read.new.buf) c.loop.chunk.items) c.loop.chunk.len (omega arith) in
    record {
      room = c.loop.invariant.room;
      between = Between_chunk b _ chunk (rw is c.in-Ok.ensures.bytes.0) c.in_ok-answer_chunk.ensures.answered c.in_ok-answer_chunk.ensures.state
          c.in_ok-write_out-2.ensures.written c.in_ok-write_out-2.ensures.none_waits;
    }

pub returns-in_default : goal.returns-in_default
returns-in_default g c = Ends_unread c.loop.invariant.between c.in_default.ensures.bytes

pub returns : goal.returns
returns g c = Ends_unread c.loop.invariant.between (Keeps-refl (g.R.Read.remaining c.loop.reader))
