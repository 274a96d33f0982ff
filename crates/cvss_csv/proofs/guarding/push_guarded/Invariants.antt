use Rattle.std.proofs.Common.{◌≡◌, ◌++◌, length}
use Rattle.cvss_csv.specs.Fields.{fields}
use Rattle.cvss_csv.specs.Guards.{guarded_fields, guarded_more}
use Rattle.cvss_csv.specs.private.Cutting.{fields_left}
use Rattle.cvss_csv.proofs.guarding.push_guarded.Given as goal

abbrev pub invariant-loop-field : goal.invariant-loop-field
invariant-loop-field l = l.out.bytes.items ++ guarded_more (fields_left l.left) ≡ l.fn.out.bytes.items ++ guarded_fields (fields l.fn.body)

abbrev pub decreases-loop-field : goal.decreases-loop-field
decreases-loop-field l = length (fields_left l.left)
