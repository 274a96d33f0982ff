use Rattle.std.proofs.Common.{◌∙◌, ◌-◌, arith, drop, length}
use Rattle.std.proofs.lemmas.List.{length-drop, length-take-le}
use Rattle.cvss_frame.proofs.MarksLemmas.{read_after}
use Rattle.cvss_frame.proofs.marks.read_after.Goals as goal

pub returns-clause-bytes : goal.returns-clause-bytes
returns-clause-bytes g c before so_far =
    let count = c.args.count in
    let buf = c.args.buf.now in
    let part = c.read.auto.buf ∙ length-take-le (length buf - count) (drop count buf) (omega (arith, length-drop count buf)) in
    read_after before _ _ count buf c.read.new.buf c.requires c.read.result part c.read.ensures.bound c.read.ensures.bytes so_far
