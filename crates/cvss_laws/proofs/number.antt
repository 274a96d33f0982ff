mod EvenLemmas
mod StandardFacts
