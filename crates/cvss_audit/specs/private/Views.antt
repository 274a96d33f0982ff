-- What private code holds, in the words of the public pages.
use Rattle.std.specs.Prelude.{◌≡◌, ◌++◌, List, map}
use Rattle.cvss_audit.specs.Differences.{Difference, difference_view}
use Rattle.cvss_audit.specs.declared.disagreements.difference.Difference as code

-- these differences are added to those before
abbrev pub Adds : List code.Difference → List Difference → List code.Difference → Type 0
Adds old added new = map difference_view new ≡ map difference_view old ++ added
