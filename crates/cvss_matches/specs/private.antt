pub mod Passing
pub mod Reporting
pub mod Sought
