pub mod AloneLemmas
mod OverridingLemmas
mod PrintingLemmas
mod TriageLemmas
