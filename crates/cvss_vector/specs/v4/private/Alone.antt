-- A vector whose score counts base metrics alone: CVSS v4.0 specification, section 1.3 (CVSS-B).
use Rattle.std.specs.Prelude.{◌≡◌, None}
use Rattle.cvss_vector.specs.declared.v4.vector.Vector.{Vector}

-- the vector has no threat metric and no environmental one
pub record IsBaseAlone (v : Vector) : Type 0 where
  pub e : v.e ≡ None
  pub cr : v.cr ≡ None
  pub ir : v.ir ≡ None
  pub ar : v.ar ≡ None
  pub mav : v.mav ≡ None
  pub mac : v.mac ≡ None
  pub mat : v.mat ≡ None
  pub mpr : v.mpr ≡ None
  pub mui : v.mui ≡ None
  pub mvc : v.mvc ≡ None
  pub mvi : v.mvi ≡ None
  pub mva : v.mva ≡ None
  pub msc : v.msc ≡ None
  pub msi : v.msi ≡ None
  pub msa : v.msa ≡ None
