pub mod AddsLemmas
mod ClearLemmas
mod DecimalLemmas
