-- What the walk over a text needs to know of CVSS v3.
use Rattle.std.specs.Prelude.{◌≡◌, ◌++◌, codes, Option, None, refl}
use Rattle.std.specs.List.{fold}
use Rattle.std.proofs.Common.{sym, ◌∙◌}
use Rattle.cvss_text.specs.private.Walk.{HasNoValue, VersionLaws, FrontLaws, elsewhere}
use Rattle.cvss_base.specs.Version.{numeral}
use Rattle.cvss_base.specs.declared.v3.MetricType.{MetricType}
use Rattle.cvss_base.specs.declared.v3.MetricType.TheVariants.{A, AC, AV, C, I, PR, S, UI, E, RL, RC, CR, IR, AR, MAV, MAC, MPR, MUI, MS, MC, MI, MA}
use Rattle.cvss_text.proofs.NumeralLemmas.{numeral-injective, numeral-plain}
use Rattle.cvss_metric.specs.v3.private.TableLaws.{plain_spelling, one_value}
use Rattle.cvss_metric.specs.v3.Table.{Value, printed}
use Rattle.cvss_vector.specs.declared.v3.vector.Vector.{Vector}
use Rattle.cvss_vector.specs.v3.Vector.{v3, value_at}

-- vectors with one version piece have one minor version
pub one_minor_version : (v w : Vector) → v3.front v ≡ v3.front w → v.minor_version ≡ w.minor_version
one_minor_version v w same =
    let numerals : numeral v.minor_version ≡ numeral w.minor_version = cc in
    numeral-injective v.minor_version w.minor_version numerals

-- the vector with another value, or none, for a metric
abbrev pub with_value : Vector → (kind : MetricType) → Option (Value kind) → Vector
with_value v AV value = record v { av = value }
with_value v AC value = record v { ac = value }
with_value v PR value = record v { pr = value }
with_value v UI value = record v { ui = value }
with_value v S value = record v { s = value }
with_value v C value = record v { c = value }
with_value v I value = record v { i = value }
with_value v A value = record v { a = value }
with_value v E value = record v { e = value }
with_value v RL value = record v { rl = value }
with_value v RC value = record v { rc = value }
with_value v CR value = record v { cr = value }
with_value v IR value = record v { ir = value }
with_value v AR value = record v { ar = value }
with_value v MAV value = record v { mav = value }
with_value v MAC value = record v { mac = value }
with_value v MPR value = record v { mpr = value }
with_value v MUI value = record v { mui = value }
with_value v MS value = record v { ms = value }
with_value v MC value = record v { mc = value }
with_value v MI value = record v { mi = value }
with_value v MA value = record v { ma = value }

-- it has all else as it was
pub elsewhere_kept : (here : MetricType) (v : Vector) (value : Option (Value here)) → elsewhere v3 here (with_value v here value) ≡ elsewhere v3 here v
elsewhere_kept = elim [ A ↦ λ v value. refl | _ ↦ λ v value. refl ]

-- the vector with a value, or none, for each metric
abbrev pub with_values : Vector → ((kind : MetricType) → Option (Value kind)) → Vector
with_values v value = fold (λ new kind. with_value new kind (value kind)) v printed

-- it has these values
pub vector_has : (v : Vector) (value : (kind : MetricType) → Option (Value kind)) (kind : MetricType) → value_at (with_values v value) kind ≡ value kind
vector_has v value = elim [ A ↦ refl | _ ↦ refl ]

-- a vector is its minor version and its values
one_vector : (v w : Vector) → v3.front v ≡ v3.front w → ((kind : MetricType) → value_at v kind ≡ value_at w kind) → v ≡ w
one_vector v w front same = λ i. with_values (record v { minor_version = one_minor_version v w front i }) (λ kind. same kind i)

-- of each minor version there is one vector without values
pub without_values : (v : Vector) → HasNoValue v3 v → v ≡ with_values v (λ _. None)
without_values v empty = one_vector v _ refl (λ kind. empty.none kind ∙ sym (vector_has v (λ _. None) kind))

pub v3_laws : VersionLaws v3
v3_laws = record {
  placed = elim [ A ↦ refl | _ ↦ refl ];
  in_order = refl;
  names_read = refl;
  names_plain = refl;
  spelling_plain = plain_spelling;
  one_value = one_value;
  one_vector = one_vector;
  some_piece = λ v front. absurd cc;
}

pub v3_front_laws : FrontLaws v3
v3_front_laws = record {
  fronts = λ v. record { reported = codes "3." ++ numeral v.minor_version; front_is = refl; plain = numeral-plain v.minor_version };
  plain = refl;
}
