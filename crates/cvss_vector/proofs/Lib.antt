pub mod AnsweringLemmas
pub mod ErrorLemmas
pub mod ReadLemmas
mod ScoreLineLemmas
mod SettingLemmas
