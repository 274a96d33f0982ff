pub mod RankLemmas
pub mod v2_lemmas
pub mod v3_lemmas
pub mod v4_lemmas
