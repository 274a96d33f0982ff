pub mod Answering
pub mod Counting
pub mod Cutting
pub mod Searching
pub mod Steps
pub mod Values
