-- Words are short.
use Rattle.std.proofs.Common.{◌≤◌, length, arith}
use Rattle.cvss_base.specs.SeverityText.{text_of as severity_text}
use Rattle.cvss_base.specs.declared.severity.Severity.{Severity}
use Rattle.cvss_base.specs.declared.severity.Severity.TheVariants.{None, Low, Medium, High, Critical}

pub severity_short : (severity : Severity) → length (severity_text severity) ≤ 8
severity_short None = omega arith
severity_short Low = omega arith
severity_short Medium = omega arith
severity_short High = omega arith
severity_short Critical = omega arith
