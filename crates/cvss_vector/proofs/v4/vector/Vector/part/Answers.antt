use Rattle.std.proofs.Common.{◌≡◌, true, refl}
use Rattle.cvss_base.specs.declared.group.MetricGroup.TheVariants.{Base}
use Rattle.cvss_score.specs.declared.v4.nomenclature.Nomenclature.{Nomenclature}
use Rattle.cvss_score.specs.declared.v4.nomenclature.Nomenclature.TheVariants.{CvssB}
use Rattle.cvss_vector.specs.v4.Parts.{counts}
use Rattle.cvss_vector.proofs.v4.OverridingLemmas.{IsComplete-kept}
use Rattle.cvss_vector.proofs.v4.vector.Vector.part.Goals as goal

base_counts : (nomenclature : Nomenclature) → counts nomenclature Base ≡ true
base_counts = elim [ CvssB ↦ refl | _ ↦ refl ]

pub returns-clause-complete : goal.returns-clause-complete
returns-clause-complete c =
    IsComplete-kept c.args.self.now _ (λ kind base. rw (base, base_counts c.args.nomenclature) at (c.counted_by.ensures.part.values kind))
