-- The order of the qualitative severity ratings: v3.0 and v3.1 specifications, section 5; v4.0 specification, section 6.
use Rattle.std.specs.Prelude.{List, [], ◌∷◌}
use Rattle.cvss_base.specs.declared.severity.Severity.{Severity}
use Rattle.cvss_base.specs.declared.severity.Severity.TheVariants.{None, Low, Medium, High, Critical}

-- the ratings as they are compared, the least first
abbrev pub severities : List Severity
severities = None ∷ Low ∷ Medium ∷ High ∷ Critical ∷ []
