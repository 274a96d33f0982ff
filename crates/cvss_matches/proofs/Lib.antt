pub mod AcceptedLemmas
mod AfterLemmas
mod AloneLemmas
mod DecodingLemmas
mod FindLemmas
pub mod FoundLemmas
mod KeptLemmas
mod LabelLemmas
mod NextLemmas
mod OffsetLemmas
mod PartLemmas
mod PassLemmas
mod PlainLemmas
mod PrefixLemmas
mod ReportingLemmas
mod UnprefixedLemmas
mod WholeLemmas
