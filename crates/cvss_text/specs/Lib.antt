pub mod Listing
pub mod Route
pub mod Setting
pub mod private
