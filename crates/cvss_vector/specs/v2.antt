pub mod Vector
pub mod Weights
pub mod private
