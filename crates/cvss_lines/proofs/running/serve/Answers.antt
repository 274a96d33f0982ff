use Rattle.std.proofs.Common.{take, drop, length, arith, ◌∙◌, take_at}
use Rattle.std.proofs.KnownBytes.{Keeps-refl}
use Rattle.cvss_lines.proofs.RunLemmas.{Between-chunk, Between-start, StreamEnds-cut, StreamEnds-stopped, StreamEnds-reported, StreamEnds-unread, StreamEnds-well, at_end, after_chunk, ended_in}
use Rattle.cvss_lines.proofs.StepsLemmas.{Stops-memory}
use Rattle.cvss_lines.proofs.running.serve.Goals as goal

pub returns-in_err-chunk : goal.returns-in_err-chunk
returns-in_err-chunk g c =
    let new = c.new-pending.ensures in
    let b = Between-start c.new-pending.result new.cut new.answers new.summary new.number in
    StreamEnds-reported c.from_residual.result c.from_residual.ensures.1
    (StreamEnds-stopped (ended_in b.consumed) (Stops-memory _ _ _ _ _ _ b.awaits.stands))

pub loop-init : goal.loop-init
loop-init g c =
    let new = c.new-pending.ensures in
    record {
      room = omega (arith, c.in_ok-chunk.ensures);
      between = Between-start c.new-pending.result new.cut new.answers new.summary new.number;
    }

pub returns-in_err-answer_end : goal.returns-in_err-answer_end
returns-in_err-answer_end g c =
    let b = c.loop.invariant.between in
    let all = at_end b _ _ c.in-Ok.ensures.bytes c.if-count-eq0.true (omega arith) in
    StreamEnds-reported c.from_residual-in_err-answer_end.result c.from_residual-in_err-answer_end.ensures.1
    (StreamEnds-stopped all (c.in_err-answer_end.ensures.stopped (g.W.Write.contents c.args.writer.now) b.input b.awaits))

pub returns-in_err-write_out : goal.returns-in_err-write_out
returns-in_err-write_out g c =
    let b = c.loop.invariant.between in
    let all = at_end b _ _ c.in-Ok.ensures.bytes c.if-count-eq0.true (omega arith) in
    StreamEnds-reported c.from_residual-in_err-write_out.result c.from_residual-in_err-write_out.ensures.1
    (StreamEnds-cut all (c.in_ok-answer_end.ensures.answered (g.W.Write.contents c.args.writer.now) b.input b.awaits) c.in_err-write_out.ensures.cut)

pub returns-then-count-eq0 : goal.returns-then-count-eq0
returns-then-count-eq0 g c =
    let b = c.loop.invariant.between in
    let all = at_end b _ _ c.in-Ok.ensures.bytes c.if-count-eq0.true (omega arith) in
    StreamEnds-well _ all.consumed (c.in-Ok.ensures.bytes.1 c.if-count-eq0.true (omega arith))
    (c.in_ok-answer_end.ensures.answered (g.W.Write.contents c.args.writer.now) b.input b.awaits) c.in_ok-write_out.ensures.written

pub returns-in_err-answer_chunk : goal.returns-in_err-answer_chunk
returns-in_err-answer_chunk g c =
    let b = c.loop.invariant.between in
    let chunk = take c.in-Ok.count c.deref.result.now in
    let is = c.deref.ensures.value ∙ take_at c.read.new.buf (drop (length c.read.new.buf) c.loop.chunk.items) c.loop.chunk.len (omega arith) in
    StreamEnds-reported c.from_residual-in_err-answer_chunk.result c.from_residual-in_err-answer_chunk.ensures.1
    (StreamEnds-stopped (after_chunk b chunk (rw is c.in-Ok.ensures.bytes.0)) (c.in_err-answer_chunk.ensures.stopped (g.W.Write.contents c.args.writer.now) b.input b.awaits))

pub returns-in_err-write_out-2 : goal.returns-in_err-write_out-2
returns-in_err-write_out-2 g c =
    let b = c.loop.invariant.between in
    let chunk = take c.in-Ok.count c.deref.result.now in
    let is = c.deref.ensures.value ∙ take_at c.read.new.buf (drop (length c.read.new.buf) c.loop.chunk.items) c.loop.chunk.len (omega arith) in
    StreamEnds-reported c.from_residual-in_err-write_out-2.result c.from_residual-in_err-write_out-2.ensures.1
    (StreamEnds-cut (after_chunk b chunk (rw is c.in-Ok.ensures.bytes.0)) (c.in_ok-answer_chunk.ensures.answered (g.W.Write.contents c.args.writer.now) b.input b.awaits).stands c.in_err-write_out-2.ensures.cut)

pub loop-preserved : goal.loop-preserved
loop-preserved g c =
    let chunk = take c.in-Ok.count c.deref.result.now in
    let is = c.deref.ensures.value ∙ take_at c.read.new.buf (drop (length c.read.new.buf) c.loop.chunk.items) c.loop.chunk.len (omega arith) in
    record {
      room = c.loop.invariant.room;
      between = Between-chunk c.loop.invariant.between _ chunk (rw is c.in-Ok.ensures.bytes.0) c.in_ok-answer_chunk.ensures.answered c.in_ok-write_out-2.ensures.written
          c.in_ok-write_out-2.ensures.none_waits;
    }

pub returns-in_default : goal.returns-in_default
returns-in_default g c = StreamEnds-unread c.loop.invariant.between c.in_default.ensures.bytes

pub returns : goal.returns
returns g c = StreamEnds-unread c.loop.invariant.between (Keeps-refl (g.R.Read.remaining c.loop.reader))
