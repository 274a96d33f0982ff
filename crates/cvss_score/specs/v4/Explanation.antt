-- The explanation of a score, which says the numbers on its way: CVSS v4.0 specification, section 8.2.
use Rattle.std.specs.Prelude.{◌≡◌, ℕ, ◌≤◌, Option, Some, None, IfSome, option_map, unwrap_or, pos, true, false, if◌then◌else◌}
use Rattle.cvss_base.specs.Exact.{Exact, ◌over◌, whole, ◌≈◌}
use Rattle.cvss_score.specs.v4.Classes.{macro_vector}
use Rattle.cvss_score.specs.v4.Gap.{Group, eq1_group, eq2_group, eq3_eq6_group, eq4_group, eq5_group}
use Rattle.cvss_score.specs.v4.Scores.{has_impact, mean, number, proportion, proportions}
use Rattle.cvss_score.specs.v4.Values.{class_value, table_value}
use Rattle.cvss_score.specs.declared.v4.scoring.explanation.Explanation.{Explanation}
use Rattle.cvss_score.specs.declared.v4.scoring.explanation.GroupExplanation.{GroupExplanation}
use Rattle.cvss_score.specs.declared.v4.scoring.explanation.GroupExplanations.{GroupExplanations}
use Rattle.cvss_score.specs.declared.v4.scoring.classes.MacroVector.{MacroVector}
use Rattle.cvss_score.specs.declared.v4.scoring.effective.Effective.{Effective}
use Rattle.cvss_score.specs.declared.v4.scoring.next.NextClass.{NextClass}

-- a class with its value
abbrev pub with_value : MacroVector → NextClass
with_value class = record { class = class; value = class_value class }

-- a group of metrics below a value is reported: what it takes is in 8400ths of a point, and 0 where there is no next lower
-- class
pub record IsGroupExplanation (value : ℕ) (group : Group) (reported : GroupExplanation) : Type 0 where
  pub next : reported.next ≡ option_map with_value group.next
  pub distance : pos reported.distance ≡ group.distance
  pub depth : reported.depth ≡ group.depth
  pub taken : reported.taken over 8400 ≈ unwrap_or (proportion value group) (whole 0)

-- the five groups are reported
pub record AreGroupExplanations (v : Effective) (reported : GroupExplanations) : Type 0 where
  pub eq1 : IsGroupExplanation (table_value v) (eq1_group v) reported.eq1
  pub eq2 : IsGroupExplanation (table_value v) (eq2_group v) reported.eq2
  pub eq3_eq6 : IsGroupExplanation (table_value v) (eq3_eq6_group v) reported.eq3_eq6
  pub eq4 : IsGroupExplanation (table_value v) (eq4_group v) reported.eq4
  pub eq5 : IsGroupExplanation (table_value v) (eq5_group v) reported.eq5

-- they are reported where there is impact
abbrev pub AreExplanations : Effective → Option GroupExplanations → Type 0
AreExplanations v None = has_impact v ≡ false
AreExplanations v (Some reported) = (has_impact v ≡ true) × AreGroupExplanations v reported

-- what is taken from the value: the mean of the proportions, and nothing without impact
abbrev pub mean_taken : Effective → Exact
mean_taken v = if has_impact v then mean (proportions v) else whole 0

-- the explanation says of the effective values: themselves, their class, its value, the groups, and, in 504000ths of a
-- point, what is taken from the value and the number that is left, of which the score is the rounding
pub record IsExplanation (v : Effective) (explanation : Explanation) : Type 0 where
  pub effective : explanation.effective ≡ v
  pub class : explanation.class ≡ macro_vector v
  pub value : explanation.value ≡ table_value v
  pub groups : AreExplanations v explanation.groups
  pub mean : explanation.mean over 504_000 ≈ mean_taken v
  pub number : explanation.number over 504_000 ≈ number v

-- no next lower value is above the value, and no group takes more than ten points
pub record IsInRange (value : ℕ) (reported : GroupExplanation) : Type 0 where
  pub next : IfSome reported.next (λ next. next.value ≤ value)
  pub taken : reported.taken ≤ 84_000

pub record GroupsAreInRange (value : ℕ) (reported : GroupExplanations) : Type 0 where
  pub eq1 : IsInRange value reported.eq1
  pub eq2 : IsInRange value reported.eq2
  pub eq3_eq6 : IsInRange value reported.eq3_eq6
  pub eq4 : IsInRange value reported.eq4
  pub eq5 : IsInRange value reported.eq5

-- all numbers are at most ten points
pub record AreInRange (explanation : Explanation) : Type 0 where
  pub value : explanation.value ≤ 100
  pub groups : IfSome explanation.groups (GroupsAreInRange explanation.value)
  pub mean : explanation.mean ≤ 5_040_000
  pub number : explanation.number ≤ 5_040_000
