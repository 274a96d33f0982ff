mod ScoreLemmas
mod ShortLemmas
mod TextLemmas
mod ThresholdFacts
pub mod WordLemmas
