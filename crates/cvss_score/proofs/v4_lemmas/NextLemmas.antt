-- A next lower class with its value.
use Rattle.std.proofs.Common.{◌≡◌, Option, Some, None, IfSome, option_map, refl, ap, subst}
use Rattle.std.specs.Option.{option_and_then}
use Rattle.cvss_score.specs.v4.Explanation.{with_value}
use Rattle.cvss_score.specs.v4.Values.{listed_value}
use Rattle.cvss_score.specs.v4.private.Next.{IsInTable}
use Rattle.cvss_score.specs.declared.v4.scoring.classes.MacroVector.{MacroVector}
use Rattle.cvss_score.specs.declared.v4.scoring.next.NextClass.{NextClass}

-- the value of a class that is there, and of none
pub lowers_are : (class : Option MacroVector) (next : Option NextClass) → next ≡ option_map with_value class
    → IfSome next IsInTable → option_and_then listed_value class ≡ option_map (λ next. next.value) next
lowers_are None None is_next in_table = refl
lowers_are None (Some next) is_next in_table = cc
lowers_are (Some class) None is_next in_table = cc
lowers_are (Some class) (Some next) is_next in_table =
    let same : next ≡ with_value class = cc in
    subst (λ m. listed_value m ≡ Some next.value) (ap (λ n. n.class) same) in_table.is_value
