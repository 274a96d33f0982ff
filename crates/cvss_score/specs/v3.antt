pub mod Bounds
pub mod Certainty
pub mod Closeness
pub mod Scores
pub mod Weighing
pub mod private
