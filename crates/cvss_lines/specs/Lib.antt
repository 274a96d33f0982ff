pub mod Answers
pub mod Exit
pub mod Lines
pub mod Prefixed
pub mod Runs
pub mod Search
pub mod Streaming
pub mod private
