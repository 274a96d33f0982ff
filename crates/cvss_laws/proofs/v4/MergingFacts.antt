-- Vectors of which the law on modified metrics speaks, so that its premise is not an empty one.
use Rattle.std.proofs.Common.{◌≡◌, ◌⊎◌, inl, inr, ℕ, List, ◌++◌, false, true, codes, Some, None, bytes_eq, take, refl, sym, ap, ◌∙◌}
use Rattle.cvss_base.specs.V4Types.{name_of}
use Rattle.cvss_base.specs.declared.v4.MetricType.{MetricType}
use Rattle.cvss_base.specs.declared.v4.MetricType.TheVariants.{AV, MAV}
use Rattle.cvss_metric.specs.declared.v4.place.OneOfFour.TheVariants as four
use Rattle.cvss_metric.specs.declared.v4.place.OneOfFive.TheVariants as five
use Rattle.cvss_vector.specs.v4.Merging.{letter_at}
use Rattle.cvss_laws.specs.v4.MergingLaws.{IsWrittenAsBase, IsKept, HasModifiedAsBase}
use Rattle.cvss_vector.specs.declared.v4.vector.Vector.{Vector}

-- the vector with AV:L, the second of the four values, and without MAV
abbrev local : Vector → Vector
local v = record v { av = Some four.Second; mav = None }

-- a metric that with an M before its name has another name than MAV and MMAV is as it was
kept : (v : Vector) (name : List ℕ) → bytes_eq (codes "MAV") name ≡ false → bytes_eq (codes "MMAV") name ≡ false
    → (base : MetricType) → name ≡ codes "M" ++ name_of base → letter_at (local v) base ≡ letter_at v base
kept v name not_av not_mav = elim [
  | AV ↦ λ named. let no : false ≡ true = sym not_av ∙ ap (bytes_eq (codes "MAV")) named in cc
  | MAV ↦ λ named. let no : false ≡ true = sym not_mav ∙ ap (bytes_eq (codes "MMAV")) named in cc
  | _ ↦ λ named. refl
]

-- a modified metric and its base metric are MAV and AV, or neither is one of these
each_pair : (v : Vector) → v.mav ≡ Some five.Second → (modified base : MetricType) → name_of modified ≡ codes "M" ++ name_of base
    → IsWrittenAsBase v (local v) modified base ⊎ IsKept v (local v) modified base
each_pair v is = elim [
  | MAV ↦ elim [
    | AV ↦ λ named. inl (record { undefined = refl; replaced = rw is refl })
    | _ ↦ λ named. let no : true ≡ false = ap (bytes_eq (codes "MAV")) named in cc
  ]
  | AV ↦ λ base named. let no : false ≡ true = ap (λ name. bytes_eq (take 1 name) (codes "M")) named in cc
  | _ ↦ λ base named. inr (record { same_modified = refl; same_base = kept v _ refl refl base named })
]

-- MAV:L may be written as AV:L whatever the other metrics are
pub local_written : (v : Vector) → v.mav ≡ Some five.Second → HasModifiedAsBase v (local v)
local_written v is = record { each = each_pair v is; e = refl; cr = refl; ir = refl; ar = refl }
