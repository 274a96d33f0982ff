use Rattle.std.proofs.Common.{take}
use Rattle.cvss_csv.specs.Tallies.{kept_in}
use Rattle.cvss_csv.specs.private.Answering.{WritesLater}
use Rattle.cvss_csv.proofs.rows.Repeated.push_later.Given as goal

abbrev pub invariant-loop-each : goal.invariant-loop-each
invariant-loop-each l =
    WritesLater l.fn.self.asked l.fn.self.cut.now.body.now l.fn.self.cut.now.line_end.now (kept_in (take l.each-index l.kept)) l.fn.out.bytes.items l.out.bytes.items l.fn.summary l.summary
