pub mod Table
pub mod private
