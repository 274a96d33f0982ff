-- CVSS v3.1 specification, section 5: the qualitative severity ratings, in lower case.
use Rattle.std.specs.Prelude.{ℕ, List, codes, map}
use Rattle.std.specs.Char.{to_ascii_lowercase}
use Rattle.cvss_base.specs.declared.severity.Severity.{Severity}
use Rattle.cvss_base.specs.declared.severity.Severity.TheVariants.{None, Low, Medium, High, Critical}

-- the word for a rating
abbrev pub text_of : Severity → List ℕ
text_of None = codes "none"
text_of Low = codes "low"
text_of Medium = codes "medium"
text_of High = codes "high"
text_of Critical = codes "critical"

-- the text with its ASCII letters turned to lower case
abbrev pub lowered : List ℕ → List ℕ
lowered text = map to_ascii_lowercase text
