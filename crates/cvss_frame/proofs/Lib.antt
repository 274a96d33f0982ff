pub mod MarksLemmas
pub mod NamesLemmas
pub mod OperandsLemmas
pub mod ReportsLemmas
