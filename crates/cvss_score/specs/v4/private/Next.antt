-- What the private code holds of a next lower class.
use Rattle.cvss_score.specs.v4.Values.{listed_value, IsListed}
use Rattle.cvss_score.specs.declared.v4.scoring.next.NextClass.{NextClass}

-- the value is listed for the class
abbrev pub IsInTable : NextClass → Type 0
IsInTable next = IsListed (listed_value next.class) next.value
