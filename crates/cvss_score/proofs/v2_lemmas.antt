pub mod CountLemmas
pub mod ScoreLemmas
pub mod UniqueLemmas
