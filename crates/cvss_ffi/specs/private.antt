pub mod Rated
pub mod Rejection
pub mod Steps
