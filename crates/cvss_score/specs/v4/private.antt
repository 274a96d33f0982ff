pub mod Next
pub mod Places
pub mod Shares
