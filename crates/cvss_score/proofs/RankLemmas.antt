-- The order of rows by their scores is one.
use Rattle.std.specs.Prelude.{ℕ, ℤ, List}
use Rattle.std.specs.Cmp.{IsTotalOrder}
use Rattle.std.proofs.lemmas.Cmp.{then_total, back_total, on_total, int_cmp_total, nat_list_cmp_total}
use Rattle.cvss_score.specs.Ranking.{rank_order}

pub rank_order_total : {R : Type 0} (score : R → ℤ) (text : R → List ℕ) → IsTotalOrder (rank_order score text)
rank_order_total score text = then_total (back_total (on_total score int_cmp_total)) (on_total text nat_list_cmp_total)
