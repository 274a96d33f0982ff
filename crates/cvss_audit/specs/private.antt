pub mod Beginnings
pub mod Pushes
pub mod Tenths
pub mod Views
pub mod Walking
pub mod Writing
