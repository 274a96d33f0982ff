mod PrintingLemmas
pub mod TableLemmas
