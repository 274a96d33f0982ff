-- What a score counts of a vector: that of CVSS-BTE all of it, and each of one without threat and environmental metrics.
use Rattle.std.proofs.Common.{◌≡◌, ℤ, refl}
use Rattle.cvss_base.specs.Tenths.{IsInTenths}
use Rattle.cvss_base.specs.declared.v4.MetricType.TheVariants as metric
use Rattle.cvss_score.specs.declared.v4.nomenclature.Nomenclature.{Nomenclature}
use Rattle.cvss_score.specs.declared.v4.nomenclature.Nomenclature.TheVariants.{CvssB, CvssBE, CvssBT, CvssBTE}
use Rattle.cvss_score.specs.v4.Scores.{IsScore}
use Rattle.cvss_vector.specs.v4.Merging.{effective_of}
use Rattle.cvss_vector.specs.v4.Parts.{IsPart, IsScoreBy}
use Rattle.cvss_vector.specs.v4.private.Alone.{IsBaseAlone}
use Rattle.cvss_vector.specs.declared.v4.vector.Vector.{Vector}

-- nothing is left out
part_all : (v : Vector) → IsPart CvssBTE v v
part_all v = record { values = elim [ metric.AC ↦ refl | _ ↦ refl ]; minor_version = refl }

part_alone : (v : Vector) → IsBaseAlone v → (nomenclature : Nomenclature) → IsPart nomenclature v v
part_alone v alone CvssB = record {
  values = elim [
    | metric.E ↦ alone.e
    | metric.CR ↦ alone.cr
    | metric.IR ↦ alone.ir
    | metric.AR ↦ alone.ar
    | metric.MAV ↦ alone.mav
    | metric.MAC ↦ alone.mac
    | metric.MAT ↦ alone.mat
    | metric.MPR ↦ alone.mpr
    | metric.MUI ↦ alone.mui
    | metric.MVC ↦ alone.mvc
    | metric.MVI ↦ alone.mvi
    | metric.MVA ↦ alone.mva
    | metric.MSC ↦ alone.msc
    | metric.MSI ↦ alone.msi
    | metric.MSA ↦ alone.msa
    | _ ↦ refl
  ];
  minor_version = refl;
}
part_alone v alone CvssBE = record { values = elim [ metric.E ↦ alone.e | _ ↦ refl ]; minor_version = refl }
part_alone v alone CvssBT = record {
  values = elim [
    | metric.CR ↦ alone.cr
    | metric.IR ↦ alone.ir
    | metric.AR ↦ alone.ar
    | metric.MAV ↦ alone.mav
    | metric.MAC ↦ alone.mac
    | metric.MAT ↦ alone.mat
    | metric.MPR ↦ alone.mpr
    | metric.MUI ↦ alone.mui
    | metric.MVC ↦ alone.mvc
    | metric.MVI ↦ alone.mvi
    | metric.MVA ↦ alone.mva
    | metric.MSC ↦ alone.msc
    | metric.MSI ↦ alone.msi
    | metric.MSA ↦ alone.msa
    | _ ↦ refl
  ];
  minor_version = refl;
}
part_alone v alone CvssBTE = part_all v

-- so its score is that of each nomenclature
pub score_alone : (v : Vector) → IsBaseAlone v → (nomenclature : Nomenclature) (count : ℤ) → IsInTenths (IsScore (effective_of v)) count
    → IsScoreBy nomenclature v count
score_alone v alone nomenclature count scored = record { part = v; is_part = part_alone v alone nomenclature; scored = scored }

-- the score is that of CVSS-BTE
pub score_of_all : (v : Vector) (count : ℤ) → IsInTenths (IsScore (effective_of v)) count → IsScoreBy CvssBTE v count
score_of_all v count scored = record { part = v; is_part = part_all v; scored = scored }
