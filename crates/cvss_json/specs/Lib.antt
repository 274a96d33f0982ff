pub mod Escapes
pub mod Json
pub mod Scalars
pub mod Sinks
pub mod laws
pub mod private
