pub mod ModifiedLaws
pub mod TableLaws
