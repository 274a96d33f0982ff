use Rattle.std.proofs.Common.{◌≡◌, ◌∙◌, if◌then◌else◌, refl, sym}
use Rattle.std.specs.Option.{option_or}
use Rattle.cvss_base.specs.Groups.{same_group}
use Rattle.cvss_base.specs.V4Types.{group_of}
use Rattle.cvss_base.specs.declared.group.MetricGroup.{MetricGroup}
use Rattle.cvss_base.specs.declared.group.MetricGroup.TheVariants.{Environmental}
use Rattle.cvss_base.specs.declared.v4.MetricType.{MetricType}
use Rattle.cvss_base.specs.declared.v4.MetricType.TheVariants as metric
use Rattle.cvss_vector.proofs.v4.OverridingLemmas.{IsComplete-kept}
use Rattle.cvss_vector.specs.v4.Overriding.{IsOverridden}
use Rattle.cvss_vector.specs.v4.Table.{value_at}
use Rattle.cvss_vector.specs.declared.v4.vector.Vector.{Vector}
use Rattle.cvss_vector.proofs.v4.vector.Vector.overridden_by.Goals as goal

-- a choice by whether a group is the environmental one
chosen : {A : Type 0} {value one other : A} (group : MetricGroup) → value ≡ (if same_group group Environmental then one else other) → (group ≡ Environmental → value ≡ one) × (¬ (group ≡ Environmental) → value ≡ other)
chosen Environmental is = (λ _. is, λ other. absurd (other refl))
chosen _ is = (λ same. absurd cc, λ _. is)

-- each value of an overridden vector is chosen so
overridden : (v overrides new : Vector) → ((kind : MetricType) → value_at new kind ≡ (if same_group (group_of kind) Environmental then option_or (value_at overrides kind) (value_at v kind) else value_at v kind)) → new.minor_version ≡ v.minor_version → IsOverridden v overrides new
overridden v overrides new values minor_version = record {
  replaced = λ kind. (chosen (group_of kind) (values kind)).0;
  kept = λ kind. (chosen (group_of kind) (values kind)).1;
  minor_version = minor_version;
}

pub returns-clause-map : goal.returns-clause-map
returns-clause-map c = overridden c.args.self.now c.args.overrides.now _ (elim [
  | metric.CR ↦ c.or.ensures
  | metric.IR ↦ c.or-2.ensures
  | metric.AR ↦ c.or-3.ensures
  | metric.MAV ↦ c.or-4.ensures
  | metric.MAC ↦ c.or-5.ensures
  | metric.MAT ↦ c.or-6.ensures
  | metric.MPR ↦ c.or-7.ensures
  | metric.MUI ↦ c.or-8.ensures
  | metric.MVC ↦ c.or-9.ensures
  | metric.MVI ↦ c.or-10.ensures
  | metric.MVA ↦ c.or-11.ensures
  | metric.MSC ↦ c.or-12.ensures
  | metric.MSI ↦ c.or-13.ensures
  | metric.MSA ↦ c.or-14.ensures
  | _ ↦ refl
]) refl

pub returns-clause-complete : goal.returns-clause-complete
returns-clause-complete c = IsComplete-kept c.args.self.now _ (λ kind base. (returns-clause-map c).kept kind (λ environment. let no = sym base ∙ environment in cc))
