-- How an option says which vector of a line is ranked.
use Rattle.std.specs.Prelude.{ℕ, List, codes, Option, None, Some, if◌then◌else◌, bytes_eq}
use Rattle.cvss_triage.specs.declared.preferring.Preference.{Preference}
use Rattle.cvss_triage.specs.declared.preferring.Preference.TheVariants.{Of, Highest}
use Rattle.cvss_vector.specs.declared.setting.Version.TheVariants.{V20, V30, V31, V40}

-- the preference of this name
abbrev pub preference_of : List ℕ → Option Preference
preference_of value =
    if bytes_eq value (codes "4.0") then Some (Of V40)
    else if bytes_eq value (codes "3.1") then Some (Of V31)
    else if bytes_eq value (codes "3.0") then Some (Of V30)
    else if bytes_eq value (codes "2.0") then Some (Of V20)
    else if bytes_eq value (codes "highest") then Some Highest
    else None
