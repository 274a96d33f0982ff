pub mod CuttingLemmas
pub mod DifferenceLemmas
pub mod GatedLemmas
pub mod ShownLemmas
pub mod TrimmedLemmas
mod ListFacts
