pub mod Near
pub mod SubScores
pub mod Units
