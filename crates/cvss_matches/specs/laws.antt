pub mod Alone
pub mod Offsets
pub mod Whole
