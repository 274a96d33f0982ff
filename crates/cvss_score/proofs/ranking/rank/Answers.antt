use Rattle.std.proofs.Common.{rules, is_lt}
use Rattle.std.proofs.lemmas.List.Sorted.{ranks_by, answers_always}
use Rattle.cvss_score.specs.Ranking.{rank_order}
use Rattle.cvss_score.proofs.RankLemmas.{rank_order_total}
use Rattle.cvss_score.proofs.ranking.rank.Goals as goal

pub returns-clause-sorted : goal.returns-clause-sorted
returns-clause-sorted g c =
    let order = rank_order g.R.Ranked.score g.R.Ranked.text in
    c.sort_unstable_by.ensures.sorted (λ x y. is_lt (order x y)) (ranks_by (rank_order_total g.R.Ranked.score g.R.Ranked.text) (λ row. row)) (answers_always _ _ _ (λ f a r g h. search rules))
