pub mod NegativeBase
pub mod NotDefined
pub mod Severity
