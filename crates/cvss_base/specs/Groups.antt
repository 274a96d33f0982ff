-- The groups of metrics: CVSS v2 guide, section 2; v3.1 specification, sections 2 to 4; v4.0 specification, sections 2
-- to 5.
use Rattle.std.specs.Prelude.{Bool, true, false, List, filter}
use Rattle.cvss_base.specs.declared.group.MetricGroup.{MetricGroup}
use Rattle.cvss_base.specs.declared.group.MetricGroup.TheVariants.{Base, Temporal, Threat, Environmental, Supplemental}

-- whether two groups are one
abbrev pub same_group : MetricGroup → MetricGroup → Bool
same_group Base Base = true
same_group Temporal Temporal = true
same_group Threat Threat = true
same_group Environmental Environmental = true
same_group Supplemental Supplemental = true
same_group _ _ = false

-- the metrics of a list that belong to a group, where `group_of` says to which each belongs
abbrev pub in_group : {K : Type 0} → (K → MetricGroup) → MetricGroup → List K → List K
in_group group_of group kinds = filter (λ kind. same_group (group_of kind) group) kinds
