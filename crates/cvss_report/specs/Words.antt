-- The words of FIRST's JSON schemas for the values of metrics.
use Rattle.std.specs.Prelude.{◌≡◌, ℕ, List, [], ◌∷◌, codes, map, find, Some, bytes_eq, if◌then◌else◌}

-- how a value is spelled in a vector, and the word that stands for it in a record
abbrev pub ValueWord : Type 0
ValueWord = List ℕ × List ℕ

-- the spelling of the value that is not defined, and its word
abbrev pub not_defined : List ℕ → ValueWord
not_defined spelling = (spelling, codes "NOT_DEFINED")

-- the word of the value that is spelled so, or nothing where no value is
abbrev pub word_in : List ValueWord → List ℕ → List ℕ
word_in [] spelling = []
word_in (word ∷ words) spelling = if bytes_eq word.0 spelling then word.1 else word_in words spelling

-- the spelling of the value that has this word, or nothing where none has
abbrev pub spelling_in : List ValueWord → List ℕ → List ℕ
spelling_in [] word = []
spelling_in (each ∷ words) word = if bytes_eq each.1 word then each.0 else spelling_in words word

-- the words are those of the values with these spellings, one a value, in their order
pub record AreWordsOf (spellings : List (List ℕ)) (words : List ValueWord) : Type 0 where
  pub each : map (λ word. word.0) words ≡ spellings
  -- no two values have one word
  pub reported : map (λ word. spelling_in words word.1) words ≡ spellings

-- the member's name says the metric
pub record HaveOneName {K : Type 0} (member_of : K → List ℕ) (kinds : List K) : Type 0 where
  pub reported : map (λ kind. find (λ other. bytes_eq (member_of other) (member_of kind)) kinds) kinds ≡ map Some kinds
