-- The qualitative severity ratings: v3.0 and v3.1 specifications, section 5; v4.0 specification, section 6.
use Rattle.std.specs.Prelude.{◌*◌, ◌^◌, ℤ, pos, int_lt, if◌then◌else◌}
use Rattle.cvss_base.specs.declared.severity.Severity.{Severity}
use Rattle.cvss_base.specs.declared.severity.Severity.TheVariants.{None, Low, Medium, High, Critical}

-- below 0.1 none, below 4.0 low, below 7.0 medium, below 9.0 high, and critical from there; the score is a
-- count of 10^-24
abbrev pub severity_of_score : ℤ → Severity
severity_of_score score =
    if int_lt score (pos (10 ^ 23)) then None
    else (if int_lt score (pos (4 * 10 ^ 24)) then Low
    else (if int_lt score (pos (7 * 10 ^ 24)) then Medium
    else (if int_lt score (pos (9 * 10 ^ 24)) then High else Critical)))
