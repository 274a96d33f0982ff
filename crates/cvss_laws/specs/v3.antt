pub mod FifthDecimals
pub mod ScoreLaws
pub mod Severity
