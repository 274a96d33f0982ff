pub mod AnswersLemmas
mod LineFacts
pub mod LinesLemmas
pub mod PrefixedLemmas
pub mod ReadsLemmas
pub mod RunLemmas
pub mod StepsLemmas
pub mod TextsLemmas
