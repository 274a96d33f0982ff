-- The numbers of scores, as a record says them.
use Rattle.std.specs.Prelude.{ℕ, neg_ℤ, pos, Float}
use Rattle.std.specs.Float.{binary64}
use Rattle.std.specs.Float.Ieee.{of_int, div}
use Rattle.serde_json.specs.Data.{Data, float, number}

-- the number of a score of so many tenths: the binary64 that is nearest to it
abbrev pub score_number : ℕ → Float
score_number tenths = div binary64 (of_int binary64 (pos tenths)) (of_int binary64 (pos 10))

-- the number -0.2: see laws/Impacts
abbrev pub minus_two_tenths : Float
minus_two_tenths = div binary64 (of_int binary64 (neg_ℤ (pos 2))) (of_int binary64 (pos 10))

-- a score's value
abbrev pub score_value : ℕ → Data
score_value tenths = number (float (score_number tenths))
