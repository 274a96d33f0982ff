pub mod GivenBack
pub mod Severity
