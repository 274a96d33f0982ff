pub mod Adjusted
pub mod Advisories
pub mod Canonical
pub mod Conversions
pub mod Counts
pub mod Findings
pub mod Participation
