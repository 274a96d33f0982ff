pub mod Component
pub mod Messages
