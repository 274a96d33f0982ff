-- A vector of CVSS v4.0 whose nomenclature is CVSS-B has base metrics alone.
use Rattle.std.proofs.Common.{◌≡◌, ℤ, pos, ◌||◌, Bool, true, false, Option, Some, None, is_some, refl}
use Rattle.cvss_base.specs.Tenths.{IsInTenths}
use Rattle.cvss_base.specs.declared.group.MetricGroup.TheVariants.{Environmental, Threat}
use Rattle.cvss_score.specs.declared.v4.nomenclature.Nomenclature.{Nomenclature}
use Rattle.cvss_score.specs.v4.Scores.{IsScore}
use Rattle.cvss_vector.specs.v4.Merging.{effective_of}
use Rattle.cvss_vector.specs.v4.Parts.{IsScoreBy}
use Rattle.cvss_vector.specs.declared.v4.vector.Vector.{Vector}
use Rattle.cvss_vector.specs.v4.Nomenclature.{has_group, nomenclature_of, nomenclature_with}
use Rattle.cvss_vector.specs.v4.private.Alone.{IsBaseAlone}
use Rattle.cvss_vector.proofs.v4.AloneLemmas.{score_alone}
use Rattle.cvss_ffi.specs.Scores.{nomenclature_number}

none_of : {X : Type 0} (value : Option X) (rest : Bool) → (is_some value || rest) ≡ false → (value ≡ None) × (rest ≡ false)
none_of None rest none = (refl, none)
none_of (Some x) rest none = absurd (let no : true ≡ false = none in cc)

alone : (v : Vector) → has_group v Threat ≡ false → has_group v Environmental ≡ false → IsBaseAlone v
alone v threat environmental =
    let e = none_of v.e _ threat in
    let cr = none_of v.cr _ environmental in
    let ir = none_of v.ir _ cr.1 in
    let ar = none_of v.ar _ ir.1 in
    let mav = none_of v.mav _ ar.1 in
    let mac = none_of v.mac _ mav.1 in
    let mat = none_of v.mat _ mac.1 in
    let mpr = none_of v.mpr _ mat.1 in
    let mui = none_of v.mui _ mpr.1 in
    let mvc = none_of v.mvc _ mui.1 in
    let mvi = none_of v.mvi _ mvc.1 in
    let mva = none_of v.mva _ mvi.1 in
    let msc = none_of v.msc _ mva.1 in
    let msi = none_of v.msi _ msc.1 in
    let msa = none_of v.msa _ msi.1 in
    record {
      e = e.0;
      cr = cr.0;
      ir = ir.0;
      ar = ar.0;
      mav = mav.0;
      mac = mac.0;
      mat = mat.0;
      mpr = mpr.0;
      mui = mui.0;
      mvc = mvc.0;
      mvi = mvi.0;
      mva = mva.0;
      msc = msc.0;
      msi = msi.0;
      msa = msa.0;
    }

-- of the two groups neither is there
neither : (threat environmental : Bool) → nomenclature_number (nomenclature_with threat environmental) ≡ pos 0 → (threat ≡ false) × (environmental ≡ false)
neither false false is = (refl, refl)
neither false true is = absurd (let no : pos 1 ≡ pos 0 = is in cc)
neither true false is = absurd (let no : pos 2 ≡ pos 0 = is in cc)
neither true true is = absurd (let no : pos 3 ≡ pos 0 = is in cc)

base_alone : (v : Vector) → nomenclature_number (nomenclature_of v) ≡ pos 0 → IsBaseAlone v
base_alone v is =
    let none = neither (has_group v Threat) (has_group v Environmental) is in
    alone v none.0 none.1

-- its score is that of each nomenclature
pub scored_alone : (v : Vector) → nomenclature_number (nomenclature_of v) ≡ pos 0 → (nomenclature : Nomenclature) (count : ℤ) → IsInTenths (IsScore (effective_of v)) count
    → IsScoreBy nomenclature v count
scored_alone v is = score_alone v (base_alone v is)
