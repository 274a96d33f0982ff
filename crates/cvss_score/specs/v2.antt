pub mod Bounds
pub mod SeverityScale
pub mod Scores
