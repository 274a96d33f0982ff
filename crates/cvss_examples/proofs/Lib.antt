mod ConversionLemmas
mod CountLemmas
mod EqualLemmas
mod TwiceLemmas
