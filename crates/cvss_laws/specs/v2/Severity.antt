-- The weights by which the values of a vector are more or less severe: guide, section 3.2, where the more severe value
-- of a metric weighs more.
use Rattle.std.specs.Prelude.{ℕ, List, [], ◌∷◌}
use Rattle.cvss_laws.specs.any.Severity.{AreScored}
use Rattle.cvss_score.specs.declared.v2.weights.Weights.{Weights}
use Rattle.cvss_score.specs.v2.Scores.{IsEnvironmentalScore}
use Rattle.cvss_vector.specs.v2.Vector.{v2}
use Rattle.cvss_vector.specs.v2.Weights.{weights_of}

-- those that the base score rests on
abbrev pub base_weights : Weights → List ℕ
base_weights w = w.av ∷ w.ac ∷ w.au ∷ w.c ∷ w.i ∷ w.a ∷ []

-- those that the temporal score rests on
abbrev pub temporal_weights : Weights → List ℕ
temporal_weights w = w.e ∷ w.rl ∷ w.rc ∷ base_weights w

-- those that the environmental score rests on
abbrev pub environmental_weights : Weights → List ℕ
environmental_weights w = w.cdp ∷ w.td ∷ w.cr ∷ w.ir ∷ w.ar ∷ temporal_weights w

-- the environmental scores, in tenths, of the vectors of two texts, where the second is in no metric less severe
abbrev pub AreEnvironmentalScores : List ℕ → List ℕ → ℕ → ℕ → Type 0
AreEnvironmentalScores =
    AreScored v2 (λ v. environmental_weights (weights_of v)) (λ v. IsEnvironmentalScore (weights_of v))
