mod DigitLemmas
pub mod EqualityLemmas
pub mod ExactLemmas
pub mod FindLemmas
pub mod RoundingLemmas
pub mod TenthsLemmas
pub mod TestLemmas
