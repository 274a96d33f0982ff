pub mod Bounds
pub mod VectorLaws
