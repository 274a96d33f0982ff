mod CloseLemmas
mod GivenLemmas
mod JoinLemmas
mod NearLemmas
mod PartLemmas
pub mod ShortLemmas
mod StepLemmas
