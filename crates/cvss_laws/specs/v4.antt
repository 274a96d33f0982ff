pub mod ClassLaws
pub mod LetterLaws
pub mod Maximal
pub mod MergingLaws
pub mod OverridingLaws
pub mod ScoreLaws
pub mod Severity
pub mod TriageLaws
