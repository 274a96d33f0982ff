pub mod Errors
pub mod Severities
