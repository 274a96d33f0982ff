-- The ratings of CVSS v2 scores, which the National Vulnerability Database gives beside the guide.
use Rattle.std.specs.Prelude.{◌*◌, ◌^◌, ℤ, pos, int_lt, if◌then◌else◌}
use Rattle.cvss_base.specs.declared.severity.Severity.{Severity}
use Rattle.cvss_base.specs.declared.severity.Severity.TheVariants.{Low, Medium, High}

-- below 4.0 low, below 7.0 medium, and high from there; the score is a count of 10^-24
abbrev pub severity_of : ℤ → Severity
severity_of score =
    if int_lt score (pos (4 * 10 ^ 24)) then Low
    else (if int_lt score (pos (7 * 10 ^ 24)) then Medium else High)
