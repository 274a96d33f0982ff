-- What the walk over a text needs to know of CVSS v2.
use Rattle.std.specs.Prelude.{◌≡◌, Option, None, refl}
use Rattle.std.specs.List.{fold}
use Rattle.std.proofs.Common.{lit<, sym, ◌∙◌}
use Rattle.cvss_text.specs.private.Walk.{HasNoValue, VersionLaws, elsewhere}
use Rattle.cvss_base.specs.declared.v2.MetricType.{MetricType}
use Rattle.cvss_base.specs.declared.v2.MetricType.TheVariants.{A, AC, AV, Au, C, I, E, RL, RC, CDP, TD, CR, IR, AR}
use Rattle.cvss_vector.specs.declared.v2.vector.Vector.{Vector}
use Rattle.cvss_metric.specs.v2.Table.{Value, printed}
use Rattle.cvss_vector.specs.v2.Vector.{v2, value_at}
use Rattle.cvss_metric.specs.v2.private.TableLaws.{plain_spelling, one_value}

-- the vector with another value, or none, for a metric
abbrev pub with_value : Vector → (kind : MetricType) → Option (Value kind) → Vector
with_value v AV value = record v { av = value }
with_value v AC value = record v { ac = value }
with_value v Au value = record v { au = value }
with_value v C value = record v { c = value }
with_value v I value = record v { i = value }
with_value v A value = record v { a = value }
with_value v E value = record v { e = value }
with_value v RL value = record v { rl = value }
with_value v RC value = record v { rc = value }
with_value v CDP value = record v { cdp = value }
with_value v TD value = record v { td = value }
with_value v CR value = record v { cr = value }
with_value v IR value = record v { ir = value }
with_value v AR value = record v { ar = value }

-- it has all else as it was
pub elsewhere_kept : (here : MetricType) (v : Vector) (value : Option (Value here)) → elsewhere v2 here (with_value v here value) ≡ elsewhere v2 here v
elsewhere_kept = elim [ A ↦ λ v value. refl | _ ↦ λ v value. refl ]

-- the vector with a value, or none, for each metric
abbrev pub with_values : Vector → ((kind : MetricType) → Option (Value kind)) → Vector
with_values v value = fold (λ new kind. with_value new kind (value kind)) v printed

-- it has these values
pub vector_has : (v : Vector) (value : (kind : MetricType) → Option (Value kind)) (kind : MetricType) → value_at (with_values v value) kind ≡ value kind
vector_has v value = elim [ A ↦ refl | _ ↦ refl ]

-- a vector is its values
one_vector : (v w : Vector) → ((kind : MetricType) → value_at v kind ≡ value_at w kind) → v ≡ w
one_vector v w same = λ i. with_values v (λ kind. same kind i)

-- there is one vector without values
pub without_values : (v : Vector) → HasNoValue v2 v → v ≡ with_values v (λ _. None)
without_values v empty = one_vector v _ (λ kind. empty.none kind ∙ sym (vector_has v (λ _. None) kind))

pub v2_laws : VersionLaws v2
v2_laws = record {
  placed = elim [ A ↦ refl | _ ↦ refl ];
  in_order = refl;
  names_read = refl;
  names_plain = refl;
  spelling_plain = plain_spelling;
  one_value = one_value;
  one_vector = λ v w _ same. one_vector v w same;
  some_piece = λ v front. (AV, (0, lit< tt, refl));
}
