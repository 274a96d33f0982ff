pub mod Alone
pub mod OverridingSteps
pub mod TableLaws
pub mod VectorLaws
