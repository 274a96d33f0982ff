pub mod Departures
pub mod Differences
pub mod Gated
pub mod Shown
pub mod Strict
pub mod Trimmed
pub mod private
