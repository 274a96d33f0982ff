pub mod Table
pub mod Places
pub mod private
