pub mod Comparing
pub mod Cutting
