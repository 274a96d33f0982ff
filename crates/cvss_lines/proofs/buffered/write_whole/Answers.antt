use Rattle.std.proofs.Common.{arith, take, drop, length, length-drop, length-take, ◌-◌, take-add}
use Rattle.std.proofs.KnownBytes.{Appends-trans}
use Rattle.std.proofs.lemmas.List.{take_rest}
use Rattle.cvss_lines.proofs.buffered.write_whole.Goals as goal

-- what was written before, and then what this write took
pub loop-written-preserved : goal.loop-written-preserved
loop-written-preserved g c =
    let bytes = c.args.bytes.now in
    let written = c.loop-written.written in
    let count = c.in-Ok.count in
    record {
      within = omega (arith, c.in-Ok.ensures.bound, length-drop written bytes, length-take (length bytes - written) (drop written bytes));
      appended = rw (take-add written count bytes)
          (Appends-trans (g.W.Write.contents c.args.writer.now) (g.W.Write.contents c.loop-written.writer) (g.W.Write.contents c.write.new.self)
          (take written bytes) (take count (drop written bytes)) c.loop-written.invariant.appended
          (rw (take_rest bytes written) at c.in-Ok.ensures.bytes));
    }
