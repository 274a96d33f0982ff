use Rattle.std.proofs.Common.{◌≡◌, drop, length, take}
use Rattle.cvss_csv.specs.Fields.{fields}
use Rattle.cvss_csv.specs.private.Cutting.{fields_left}
use Rattle.cvss_csv.proofs.fields.field_at.Given as goal

abbrev pub invariant-loop-field : goal.invariant-loop-field
invariant-loop-field l = take 1 (drop l.left (fields_left l.fields)) ≡ take 1 (drop l.fn.index (fields l.fn.body))

abbrev pub decreases-loop-field : goal.decreases-loop-field
decreases-loop-field l = length (fields_left l.fields)
