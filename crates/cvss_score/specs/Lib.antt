pub mod AtMost
pub mod Ranking
pub mod v2
pub mod v3
pub mod v4
