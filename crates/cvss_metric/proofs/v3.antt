mod LetterLemmas
