-- The weights by which the values of a vector are more or less severe: v3.0 specification, section 8.4; v3.1
-- specification, section 7.4, where the more severe value of a metric weighs more.
use Rattle.std.specs.Prelude.{ℕ, Bool, true, false, List, [], ◌∷◌}
use Rattle.cvss_laws.specs.any.Severity.{AreScored}
use Rattle.cvss_score.specs.declared.v3.weights.Weights.{Weights}
use Rattle.cvss_score.specs.v3.Scores.{IsEnvironmentalScore}
use Rattle.cvss_vector.specs.v3.Vector.{v3}
use Rattle.cvss_vector.specs.v3.VectorWeights.{weights_of}

-- of the scope Changed is the more severe
abbrev pub scope_level : Bool → ℕ
scope_level false = 0
scope_level true = 1

-- the weights that the base score rests on
abbrev pub base_weights : Weights → List ℕ
base_weights w = w.av ∷ w.ac ∷ w.pr ∷ w.ui ∷ scope_level w.changed ∷ w.c ∷ w.i ∷ w.a ∷ []

-- those that the temporal score rests on
abbrev pub temporal_weights : Weights → List ℕ
temporal_weights w = w.e ∷ w.rl ∷ w.rc ∷ base_weights w

-- those that the environmental score rests on: a modified metric weighs in the place of its base metric
abbrev pub environmental_weights : Weights → List ℕ
environmental_weights w =
    w.e ∷ w.rl ∷ w.rc ∷ w.cr ∷ w.ir ∷ w.ar
    ∷ w.mav ∷ w.mac ∷ w.mpr ∷ w.mui ∷ scope_level w.modified_changed ∷ w.mc ∷ w.mi ∷ w.ma ∷ []

-- the environmental scores, in tenths, of the vectors of two texts, where the second is in no metric less severe
abbrev pub AreEnvironmentalScores : List ℕ → List ℕ → ℕ → ℕ → Type 0
AreEnvironmentalScores =
    AreScored v3 (λ v. environmental_weights (weights_of v)) (λ v. IsEnvironmentalScore v.minor_version (weights_of v))
