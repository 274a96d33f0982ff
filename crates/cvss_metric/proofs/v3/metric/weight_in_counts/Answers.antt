use Rattle.std.specs.Int.{w128}
use Rattle.std.specs.List.{list_all}
use Rattle.std.proofs.Common.{◌≡◌, ℕ, zero, suc, ◌*◌, ◌^◌, ◌≤◌, List, [], ◌∷◌, Option, None, true, leb, ℤ, pos, ◌*ℤ◌, slice_get, unwrap_or, refl, arith}
use Rattle.std.proofs.lemmas.Bool.{and_parts, leb-true}
use Rattle.std.proofs.lemmas.Int.{ints, to_z-of_z}
use mir.Val.{to_z, of_z}
use Rattle.cvss_base.specs.declared.v3.MetricType.{MetricType}
use Rattle.cvss_base.specs.declared.v3.MetricType.TheVariants.{A}
use Rattle.cvss_metric.specs.v3.Table.{rows_of, rank_of}
use Rattle.cvss_metric.proofs.v3.metric.weight_in_counts.Goals as goal

-- no weight is above 150
bounded : (kind : MetricType) → list_all (λ row. leb (unwrap_or row.1 0) 150) (rows_of kind) ≡ true
bounded A = refl
bounded _ = refl

bounded_at : (rows : List (List ℕ × Option ℕ)) (place : ℕ) → list_all (λ row. leb (unwrap_or row.1 0) 150) rows ≡ true → leb (unwrap_or (unwrap_or (slice_get rows place) ([], None)).1 0) 150 ≡ true
bounded_at [] place all = refl
bounded_at (row ∷ rows) zero all = (and_parts _ _ all).0
bounded_at (row ∷ rows) (suc place) all = bounded_at rows place (and_parts _ _ all).1

product : (z : ℤ) (u : ℕ) → z ≡ pos u → u ≤ 150 → to_z w128 (of_z w128 (to_z w128 (of_z w128 z) *ℤ pos (10 ^ 22))) ≡ pos (u * 10 ^ 22)
product z u is small = rw (is, to_z-of_z w128 (pos u) (omega (arith, ints))) (to_z-of_z w128 (pos (u * 10 ^ 22)) (omega (arith, ints)))

pub returns : goal.returns
returns g c =
    let kind = g.M.MetricValue.KIND in
    let small = leb-true _ _ (rw (← c.hundredths.ensures, ← c.unwrap_or.ensures) at (bounded_at (rows_of kind) (rank_of kind (g.M.MetricValue.value c.args.value)) (bounded kind))) in
    let is = product c.from.result c.unwrap_or.result c.from.ensures small in
    record {
      value = rw (← c.hundredths.ensures, ← c.unwrap_or.ensures) is;
      limit = rw is (record { from_lowest = omega (arith, ints); to_highest = omega (arith, ints, small) });
    }
