-- What the walk over a text needs to know of CVSS v4.0.
use Rattle.std.specs.Prelude.{◌≡◌, ◌++◌, codes, Option, None, refl}
use Rattle.std.specs.List.{fold}
use Rattle.std.proofs.Common.{sym, ◌∙◌}
use Rattle.cvss_text.specs.private.Walk.{HasNoValue, VersionLaws, FrontLaws, elsewhere}
use Rattle.cvss_base.specs.Version.{numeral}
use Rattle.cvss_base.specs.declared.v4.MetricType.{MetricType}
use Rattle.cvss_base.specs.declared.v4.MetricType.TheVariants as metric
use Rattle.cvss_text.proofs.NumeralLemmas.{numeral-injective, numeral-plain}
use Rattle.cvss_vector.specs.v4.private.TableLaws.{plain_spelling, one_value}
use Rattle.cvss_vector.specs.declared.v4.vector.Vector.{Vector}
use Rattle.cvss_vector.specs.v4.Table.{Value, value_at, values_of}
use Rattle.cvss_metric.specs.v4.Table.{printed}
use Rattle.cvss_vector.specs.v4.Vector.{v4}

-- vectors with one version piece have one minor version
pub one_minor_version : (v w : Vector) → v4.front v ≡ v4.front w → v.minor_version ≡ w.minor_version
one_minor_version v w same =
    let numerals : numeral v.minor_version ≡ numeral w.minor_version = cc in
    numeral-injective v.minor_version w.minor_version numerals

-- the vector with other values
abbrev pub with_values : Vector → ((kind : MetricType) → Option (Value kind)) → Vector
with_values v value = fold (λ new kind. (values_of kind).with_value new (value kind)) v printed

-- it has these values
pub vector_has : (v : Vector) (value : (kind : MetricType) → Option (Value kind)) (kind : MetricType) → value_at (with_values v value) kind ≡ value kind
vector_has v value = elim [ metric.AC ↦ refl | _ ↦ refl ]

-- a vector with another value for a metric has all else as it was
pub elsewhere_kept : (here : MetricType) (v : Vector) (value : Option (Value here)) → elsewhere v4 here ((values_of here).with_value v value) ≡ elsewhere v4 here v
elsewhere_kept = elim [ metric.AC ↦ λ v value. refl | _ ↦ λ v value. refl ]

-- a vector is its minor version and its values
one_vector : (v w : Vector) → v4.front v ≡ v4.front w → ((kind : MetricType) → value_at v kind ≡ value_at w kind) → v ≡ w
one_vector v w front same = λ i. with_values (record v { minor_version = one_minor_version v w front i }) (λ kind. same kind i)

-- of each minor version there is one vector without values
pub without_values : (v : Vector) → HasNoValue v4 v → v ≡ with_values v (λ _. None)
without_values v empty = one_vector v _ refl (λ kind. empty.none kind ∙ sym (vector_has v (λ _. None) kind))

pub v4_laws : VersionLaws v4
v4_laws = record {
  placed = elim [ metric.AC ↦ refl | _ ↦ refl ];
  in_order = refl;
  names_read = refl;
  names_plain = refl;
  spelling_plain = plain_spelling;
  one_value = one_value;
  one_vector = one_vector;
  some_piece = λ v front. absurd cc;
}

pub v4_front_laws : FrontLaws v4
v4_front_laws = record {
  fronts = λ v. record { reported = codes "4." ++ numeral v.minor_version; front_is = refl; plain = numeral-plain v.minor_version };
  plain = refl;
}
