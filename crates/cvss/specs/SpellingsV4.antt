-- How each value of the enums of CVSS v4.0 is spelled: v4.0 specification, sections 2 (base), 3 (threat), 4
-- (environmental) and 5 (supplemental).
use Rattle.std.specs.Prelude.{ℕ, List, codes, bytes_eq}
use Rattle.std.specs.List.{position_or_len}
use Rattle.cvss_base.specs.Text.{component}
use Rattle.cvss_base.specs.V4Types.{name_of}
use Rattle.cvss_base.specs.declared.v4.MetricType.{MetricType}
use Rattle.cvss_base.specs.declared.v4.MetricType.TheVariants as metric
use Rattle.cvss_metric.specs.v4.Table.{spellings_of}
use Rattle.cvss.specs.declared.v4.metric.base.attack.AttackVector.{AttackVector}
use Rattle.cvss.specs.declared.v4.metric.base.attack.AttackVector.TheVariants as av
use Rattle.cvss.specs.declared.v4.metric.base.attack.AttackComplexity.{AttackComplexity}
use Rattle.cvss.specs.declared.v4.metric.base.attack.AttackComplexity.TheVariants as ac
use Rattle.cvss.specs.declared.v4.metric.base.attack.AttackRequirements.{AttackRequirements}
use Rattle.cvss.specs.declared.v4.metric.base.attack.AttackRequirements.TheVariants as at
use Rattle.cvss.specs.declared.v4.metric.base.attack.PrivilegesRequired.{PrivilegesRequired}
use Rattle.cvss.specs.declared.v4.metric.base.attack.PrivilegesRequired.TheVariants as pr
use Rattle.cvss.specs.declared.v4.metric.base.attack.UserInteraction.{UserInteraction}
use Rattle.cvss.specs.declared.v4.metric.base.attack.UserInteraction.TheVariants as ui
use Rattle.cvss.specs.declared.v4.metric.base.vulnerable.ConfidentialityImpactToTheVulnerableSystem.{ConfidentialityImpactToTheVulnerableSystem}
use Rattle.cvss.specs.declared.v4.metric.base.vulnerable.ConfidentialityImpactToTheVulnerableSystem.TheVariants as vc
use Rattle.cvss.specs.declared.v4.metric.base.vulnerable.IntegrityImpactToTheVulnerableSystem.{IntegrityImpactToTheVulnerableSystem}
use Rattle.cvss.specs.declared.v4.metric.base.vulnerable.IntegrityImpactToTheVulnerableSystem.TheVariants as vi
use Rattle.cvss.specs.declared.v4.metric.base.vulnerable.AvailabilityImpactToTheVulnerableSystem.{AvailabilityImpactToTheVulnerableSystem}
use Rattle.cvss.specs.declared.v4.metric.base.vulnerable.AvailabilityImpactToTheVulnerableSystem.TheVariants as va
use Rattle.cvss.specs.declared.v4.metric.base.subsequent.ConfidentialityImpactToTheSubsequentSystem.{ConfidentialityImpactToTheSubsequentSystem}
use Rattle.cvss.specs.declared.v4.metric.base.subsequent.ConfidentialityImpactToTheSubsequentSystem.TheVariants as sc
use Rattle.cvss.specs.declared.v4.metric.base.subsequent.IntegrityImpactToTheSubsequentSystem.{IntegrityImpactToTheSubsequentSystem}
use Rattle.cvss.specs.declared.v4.metric.base.subsequent.IntegrityImpactToTheSubsequentSystem.TheVariants as si
use Rattle.cvss.specs.declared.v4.metric.base.subsequent.AvailabilityImpactToTheSubsequentSystem.{AvailabilityImpactToTheSubsequentSystem}
use Rattle.cvss.specs.declared.v4.metric.base.subsequent.AvailabilityImpactToTheSubsequentSystem.TheVariants as sa
use Rattle.cvss.specs.declared.v4.metric.threat.ExploitMaturity.{ExploitMaturity}
use Rattle.cvss.specs.declared.v4.metric.threat.ExploitMaturity.TheVariants as e
use Rattle.cvss.specs.declared.v4.metric.environmental.requirement.ConfidentialityRequirements.{ConfidentialityRequirements}
use Rattle.cvss.specs.declared.v4.metric.environmental.requirement.ConfidentialityRequirements.TheVariants as cr
use Rattle.cvss.specs.declared.v4.metric.environmental.requirement.IntegrityRequirements.{IntegrityRequirements}
use Rattle.cvss.specs.declared.v4.metric.environmental.requirement.IntegrityRequirements.TheVariants as ir
use Rattle.cvss.specs.declared.v4.metric.environmental.requirement.AvailabilityRequirements.{AvailabilityRequirements}
use Rattle.cvss.specs.declared.v4.metric.environmental.requirement.AvailabilityRequirements.TheVariants as ar
use Rattle.cvss.specs.declared.v4.metric.environmental.attack.ModifiedAttackVector.{ModifiedAttackVector}
use Rattle.cvss.specs.declared.v4.metric.environmental.attack.ModifiedAttackVector.TheVariants as mav
use Rattle.cvss.specs.declared.v4.metric.environmental.attack.ModifiedAttackComplexity.{ModifiedAttackComplexity}
use Rattle.cvss.specs.declared.v4.metric.environmental.attack.ModifiedAttackComplexity.TheVariants as mac
use Rattle.cvss.specs.declared.v4.metric.environmental.attack.ModifiedAttackRequirements.{ModifiedAttackRequirements}
use Rattle.cvss.specs.declared.v4.metric.environmental.attack.ModifiedAttackRequirements.TheVariants as mat
use Rattle.cvss.specs.declared.v4.metric.environmental.attack.ModifiedPrivilegesRequired.{ModifiedPrivilegesRequired}
use Rattle.cvss.specs.declared.v4.metric.environmental.attack.ModifiedPrivilegesRequired.TheVariants as mpr
use Rattle.cvss.specs.declared.v4.metric.environmental.attack.ModifiedUserInteraction.{ModifiedUserInteraction}
use Rattle.cvss.specs.declared.v4.metric.environmental.attack.ModifiedUserInteraction.TheVariants as mui
use Rattle.cvss.specs.declared.v4.metric.environmental.vulnerable.ModifiedConfidentialityImpactToTheVulnerableSystem.{ModifiedConfidentialityImpactToTheVulnerableSystem}
use Rattle.cvss.specs.declared.v4.metric.environmental.vulnerable.ModifiedConfidentialityImpactToTheVulnerableSystem.TheVariants as mvc
use Rattle.cvss.specs.declared.v4.metric.environmental.vulnerable.ModifiedIntegrityImpactToTheVulnerableSystem.{ModifiedIntegrityImpactToTheVulnerableSystem}
use Rattle.cvss.specs.declared.v4.metric.environmental.vulnerable.ModifiedIntegrityImpactToTheVulnerableSystem.TheVariants as mvi
use Rattle.cvss.specs.declared.v4.metric.environmental.vulnerable.ModifiedAvailabilityImpactToTheVulnerableSystem.{ModifiedAvailabilityImpactToTheVulnerableSystem}
use Rattle.cvss.specs.declared.v4.metric.environmental.vulnerable.ModifiedAvailabilityImpactToTheVulnerableSystem.TheVariants as mva
use Rattle.cvss.specs.declared.v4.metric.environmental.subsequent.ModifiedConfidentialityImpactToTheSubsequentSystem.{ModifiedConfidentialityImpactToTheSubsequentSystem}
use Rattle.cvss.specs.declared.v4.metric.environmental.subsequent.ModifiedConfidentialityImpactToTheSubsequentSystem.TheVariants as msc
use Rattle.cvss.specs.declared.v4.metric.environmental.subsequent.ModifiedIntegrityImpactToTheSubsequentSystem.{ModifiedIntegrityImpactToTheSubsequentSystem}
use Rattle.cvss.specs.declared.v4.metric.environmental.subsequent.ModifiedIntegrityImpactToTheSubsequentSystem.TheVariants as msi
use Rattle.cvss.specs.declared.v4.metric.environmental.subsequent.ModifiedAvailabilityImpactToTheSubsequentSystem.{ModifiedAvailabilityImpactToTheSubsequentSystem}
use Rattle.cvss.specs.declared.v4.metric.environmental.subsequent.ModifiedAvailabilityImpactToTheSubsequentSystem.TheVariants as msa
use Rattle.cvss.specs.declared.v4.metric.supplemental.consequence.Safety.{Safety}
use Rattle.cvss.specs.declared.v4.metric.supplemental.consequence.Safety.TheVariants as s
use Rattle.cvss.specs.declared.v4.metric.supplemental.consequence.Automatable.{Automatable}
use Rattle.cvss.specs.declared.v4.metric.supplemental.consequence.Automatable.TheVariants as au
use Rattle.cvss.specs.declared.v4.metric.supplemental.consequence.Recovery.{Recovery}
use Rattle.cvss.specs.declared.v4.metric.supplemental.consequence.Recovery.TheVariants as r
use Rattle.cvss.specs.declared.v4.metric.supplemental.consequence.ValueDensity.{ValueDensity}
use Rattle.cvss.specs.declared.v4.metric.supplemental.consequence.ValueDensity.TheVariants as v
use Rattle.cvss.specs.declared.v4.metric.supplemental.VulnerabilityResponseEffort.{VulnerabilityResponseEffort}
use Rattle.cvss.specs.declared.v4.metric.supplemental.VulnerabilityResponseEffort.TheVariants as re
use Rattle.cvss.specs.declared.v4.metric.supplemental.ProviderUrgency.{ProviderUrgency}
use Rattle.cvss.specs.declared.v4.metric.supplemental.ProviderUrgency.TheVariants as u

-- the type of a metric's values
abbrev pub Value : MetricType → Type 0
Value metric.AV = AttackVector
Value metric.AC = AttackComplexity
Value metric.AT = AttackRequirements
Value metric.PR = PrivilegesRequired
Value metric.UI = UserInteraction
Value metric.VC = ConfidentialityImpactToTheVulnerableSystem
Value metric.VI = IntegrityImpactToTheVulnerableSystem
Value metric.VA = AvailabilityImpactToTheVulnerableSystem
Value metric.SC = ConfidentialityImpactToTheSubsequentSystem
Value metric.SI = IntegrityImpactToTheSubsequentSystem
Value metric.SA = AvailabilityImpactToTheSubsequentSystem
Value metric.E = ExploitMaturity
Value metric.CR = ConfidentialityRequirements
Value metric.IR = IntegrityRequirements
Value metric.AR = AvailabilityRequirements
Value metric.MAV = ModifiedAttackVector
Value metric.MAC = ModifiedAttackComplexity
Value metric.MAT = ModifiedAttackRequirements
Value metric.MPR = ModifiedPrivilegesRequired
Value metric.MUI = ModifiedUserInteraction
Value metric.MVC = ModifiedConfidentialityImpactToTheVulnerableSystem
Value metric.MVI = ModifiedIntegrityImpactToTheVulnerableSystem
Value metric.MVA = ModifiedAvailabilityImpactToTheVulnerableSystem
Value metric.MSC = ModifiedConfidentialityImpactToTheSubsequentSystem
Value metric.MSI = ModifiedIntegrityImpactToTheSubsequentSystem
Value metric.MSA = ModifiedAvailabilityImpactToTheSubsequentSystem
Value metric.S = Safety
Value metric.AU = Automatable
Value metric.R = Recovery
Value metric.V = ValueDensity
Value metric.RE = VulnerabilityResponseEffort
Value metric.U = ProviderUrgency

-- how a value is spelled
abbrev pub spelling_of : (kind : MetricType) → Value kind → List ℕ
-- section 2.1, exploitability
spelling_of metric.AV = elim [ av.Physical ↦ codes "P" | av.Local ↦ codes "L" | av.Adjacent ↦ codes "A" | av.Network ↦ codes "N" ]
spelling_of metric.AC = elim [ ac.High ↦ codes "H" | ac.Low ↦ codes "L" ]
spelling_of metric.AT = elim [ at.Present ↦ codes "P" | at.None ↦ codes "N" ]
spelling_of metric.PR = elim [ pr.High ↦ codes "H" | pr.Low ↦ codes "L" | pr.None ↦ codes "N" ]
spelling_of metric.UI = elim [ ui.Active ↦ codes "A" | ui.Passive ↦ codes "P" | ui.None ↦ codes "N" ]
-- section 2.2, impact
spelling_of metric.VC = elim [ vc.None ↦ codes "N" | vc.Low ↦ codes "L" | vc.High ↦ codes "H" ]
spelling_of metric.VI = elim [ vi.None ↦ codes "N" | vi.Low ↦ codes "L" | vi.High ↦ codes "H" ]
spelling_of metric.VA = elim [ va.None ↦ codes "N" | va.Low ↦ codes "L" | va.High ↦ codes "H" ]
spelling_of metric.SC = elim [ sc.None ↦ codes "N" | sc.Low ↦ codes "L" | sc.High ↦ codes "H" ]
spelling_of metric.SI = elim [ si.None ↦ codes "N" | si.Low ↦ codes "L" | si.High ↦ codes "H" ]
spelling_of metric.SA = elim [ sa.None ↦ codes "N" | sa.Low ↦ codes "L" | sa.High ↦ codes "H" ]
-- section 3, threat
spelling_of metric.E = elim [ e.NotDefined ↦ codes "X" | e.Unreported ↦ codes "U" | e.ProofOfConcept ↦ codes "P" | e.Attacked ↦ codes "A" ]
-- section 4.1, security requirements
spelling_of metric.CR = elim [ cr.NotDefined ↦ codes "X" | cr.Low ↦ codes "L" | cr.Medium ↦ codes "M" | cr.High ↦ codes "H" ]
spelling_of metric.IR = elim [ ir.NotDefined ↦ codes "X" | ir.Low ↦ codes "L" | ir.Medium ↦ codes "M" | ir.High ↦ codes "H" ]
spelling_of metric.AR = elim [ ar.NotDefined ↦ codes "X" | ar.Low ↦ codes "L" | ar.Medium ↦ codes "M" | ar.High ↦ codes "H" ]
-- section 4.2, modified base metrics
spelling_of metric.MAV = elim [ mav.Physical ↦ codes "P" | mav.Local ↦ codes "L" | mav.Adjacent ↦ codes "A" | mav.Network ↦ codes "N" | mav.NotDefined ↦ codes "X" ]
spelling_of metric.MAC = elim [ mac.NotDefined ↦ codes "X" | mac.High ↦ codes "H" | mac.Low ↦ codes "L" ]
spelling_of metric.MAT = elim [ mat.NotDefined ↦ codes "X" | mat.Present ↦ codes "P" | mat.None ↦ codes "N" ]
spelling_of metric.MPR = elim [ mpr.NotDefined ↦ codes "X" | mpr.High ↦ codes "H" | mpr.Low ↦ codes "L" | mpr.None ↦ codes "N" ]
spelling_of metric.MUI = elim [ mui.NotDefined ↦ codes "X" | mui.Active ↦ codes "A" | mui.Passive ↦ codes "P" | mui.None ↦ codes "N" ]
spelling_of metric.MVC = elim [ mvc.NotDefined ↦ codes "X" | mvc.None ↦ codes "N" | mvc.Low ↦ codes "L" | mvc.High ↦ codes "H" ]
spelling_of metric.MVI = elim [ mvi.NotDefined ↦ codes "X" | mvi.None ↦ codes "N" | mvi.Low ↦ codes "L" | mvi.High ↦ codes "H" ]
spelling_of metric.MVA = elim [ mva.NotDefined ↦ codes "X" | mva.None ↦ codes "N" | mva.Low ↦ codes "L" | mva.High ↦ codes "H" ]
spelling_of metric.MSC = elim [ msc.NotDefined ↦ codes "X" | msc.Negligible ↦ codes "N" | msc.Low ↦ codes "L" | msc.High ↦ codes "H" ]
spelling_of metric.MSI = elim [ msi.NotDefined ↦ codes "X" | msi.Negligible ↦ codes "N" | msi.Low ↦ codes "L" | msi.High ↦ codes "H" | msi.Safety ↦ codes "S" ]
spelling_of metric.MSA = elim [ msa.NotDefined ↦ codes "X" | msa.Negligible ↦ codes "N" | msa.Low ↦ codes "L" | msa.High ↦ codes "H" | msa.Safety ↦ codes "S" ]
-- section 5, supplemental metrics
spelling_of metric.S = elim [ s.NotDefined ↦ codes "X" | s.Present ↦ codes "P" | s.Negligible ↦ codes "N" ]
spelling_of metric.AU = elim [ au.NotDefined ↦ codes "X" | au.Yes ↦ codes "Y" | au.No ↦ codes "N" ]
spelling_of metric.R = elim [ r.NotDefined ↦ codes "X" | r.Automatic ↦ codes "A" | r.User ↦ codes "U" | r.Irrecoverable ↦ codes "I" ]
spelling_of metric.V = elim [ v.NotDefined ↦ codes "X" | v.Diffuse ↦ codes "D" | v.Concentrated ↦ codes "C" ]
spelling_of metric.RE = elim [ re.NotDefined ↦ codes "X" | re.Low ↦ codes "L" | re.Moderate ↦ codes "M" | re.High ↦ codes "H" ]
spelling_of metric.U = elim [ u.NotDefined ↦ codes "X" | u.Red ↦ codes "Red" | u.Amber ↦ codes "Amber" | u.Green ↦ codes "Green" | u.Clear ↦ codes "Clear" ]

-- the place of a value among those of its metric, which is that of its spelling
abbrev pub rank_of : (kind : MetricType) → Value kind → ℕ
rank_of kind value = position_or_len (λ spelling. bytes_eq spelling (spelling_of kind value)) (spellings_of kind)

-- the metric's name, a colon and the value's spelling
abbrev pub value_component : (kind : MetricType) → Value kind → List ℕ
value_component kind value = component (name_of kind) (spelling_of kind value)
