use Rattle.std.proofs.Common.{◌≡◌, bytes_eq, drop, find}
use Rattle.cvss_report.specs.Fields.{fields_of, name_of}
use Rattle.cvss_audit.proofs.expected.member.expected_at.Given as goal

abbrev pub invariant-loop-field : goal.invariant-loop-field
invariant-loop-field l =
    find (λ field. bytes_eq (name_of field) l.name) (drop l.field-index l.field-items)
    ≡ find (λ field. bytes_eq (name_of field) l.name) (fields_of l.cvss)
