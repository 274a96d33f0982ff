-- The score of effective values: CVSS v4.0 specification, section 8.2.
use Rattle.std.specs.Prelude.{ℕ, Bool, true, false, ◌||◌, if◌then◌else◌, List, [], ◌∷◌, Option, option_map, filter_map, length, ℤ, pos, ◌-ℤ◌}
use Rattle.cvss_base.specs.Exact.{Exact, ratio, ◌over◌, whole, tenths, ◌⊕◌, ◌⊖◌, ◌⊗◌}
use Rattle.cvss_base.specs.Rounding.{IsRoundedV4}
use Rattle.cvss_score.specs.v4.Gap.{Group, groups, next_lower}
use Rattle.cvss_score.specs.v4.Values.{table_value}
use Rattle.cvss_score.specs.declared.v4.scoring.effective.Effective.{Effective}
use Rattle.cvss_score.specs.declared.v4.scoring.effective.VulnerableImpact.{VulnerableImpact}
use Rattle.cvss_score.specs.declared.v4.scoring.effective.VulnerableImpact.TheVariants as vulnerable_impact
use Rattle.cvss_score.specs.declared.v4.scoring.effective.SubsequentImpact.{SubsequentImpact}
use Rattle.cvss_score.specs.declared.v4.scoring.effective.SubsequentImpact.TheVariants as subsequent_impact
use Rattle.cvss_score.specs.declared.v4.scoring.effective.SafetyImpact.{SafetyImpact}
use Rattle.cvss_score.specs.declared.v4.scoring.effective.SafetyImpact.TheVariants as safety_impact

-- not VC:N, VI:N or VA:N; not SC:N; not SI:N or SA:N
abbrev pub is_vulnerable_impact : VulnerableImpact → Bool
is_vulnerable_impact = elim [ vulnerable_impact.None ↦ false | _ ↦ true ]

abbrev pub is_subsequent_impact : SubsequentImpact → Bool
is_subsequent_impact = elim [ subsequent_impact.None ↦ false | _ ↦ true ]

abbrev pub is_safety_impact : SafetyImpact → Bool
is_safety_impact = elim [ safety_impact.None ↦ false | _ ↦ true ]

-- one of VC, VI, VA, SC, SI and SA is not N
abbrev pub has_impact : Effective → Bool
has_impact v =
    is_vulnerable_impact v.vc || (is_vulnerable_impact v.vi || (is_vulnerable_impact v.va
    || (is_subsequent_impact v.sc || (is_safety_impact v.si || is_safety_impact v.sa))))

-- gap * distance / depth of a group that has a next lower value; the gap is the value less the next lower one
abbrev pub proportion : ℕ → Group → Option Exact
proportion value group =
    option_map (λ lower. tenths (pos value -ℤ pos lower) ⊗ ratio group.distance group.depth) (next_lower group)

-- the proportions of the groups that have a next lower value
abbrev pub proportions : Effective → List Exact
proportions v = filter_map (proportion (table_value v)) (groups v)

-- the sum of exact numbers
abbrev pub total : List Exact → Exact
total [] = whole 0
total (x ∷ rest) = x ⊕ total rest

-- their mean, which is 0 where there is none
abbrev pub mean : List Exact → Exact
mean [] = whole 0
mean (x ∷ rest) = total (x ∷ rest) ⊗ 1 over length (x ∷ rest)

-- the value of the class less the mean of gap * distance / depth, and 0 without impact
unfoldable pub number : Effective → Exact
number v =
    if has_impact v
    then tenths (pos (table_value v)) ⊖ mean (proportions v)
    else whole 0

-- so many tenths are the score: the number rounded, half up
abbrev pub IsScore : Effective → ℤ → Type 0
IsScore v r = IsRoundedV4 (number v) r
