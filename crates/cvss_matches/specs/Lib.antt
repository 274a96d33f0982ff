pub mod Answers
pub mod CandidatesLeft
pub mod Decoding
pub mod Matches
pub mod Parts
pub mod Prefixes
pub mod laws
pub mod private
