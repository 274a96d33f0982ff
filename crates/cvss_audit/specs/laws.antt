pub mod Impacts
pub mod ObjectTexts
pub mod Pointers
pub mod Records
