use Rattle.std.specs.Prelude.{map, take}
use Rattle.cvss_vector.specs.v4.TriageFaults.{HasNoRejectionBefore}
use Rattle.cvss_vector.specs.v4.Triage.{AreRows}
use Rattle.cvss_vector.proofs.v4.triage.rank.rows_of.Given as goal

abbrev pub invariant-loop-index : goal.invariant-loop-index
invariant-loop-index l =
    AreRows l.fn.overrides (take l.index (map (λ text. text.now) l.fn.texts)) l.rows.items
    × HasNoRejectionBefore (map (λ text. text.now) l.fn.texts) l.index
