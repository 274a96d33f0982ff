pub mod Pieces
pub mod Printing
pub mod Routing
pub mod SettingSteps
pub mod Walk
pub mod Values
