mod JsonLemmas
mod ReadingLemmas
