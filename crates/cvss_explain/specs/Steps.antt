-- Steps on the way to a score, which both forms of an explanation are made of.
use Rattle.std.specs.Prelude.{◌≡◌, ℕ, ℤ, ⊤, Bool, if◌then◌else◌, List, [], ◌∷◌, ◌++◌, codes, map, Option, Some, None, slice_get}
use Rattle.std.specs.Option.{option_map, option_map_or}
use Rattle.cvss_base.specs.SeverityText.{text_of as severity_text}
use Rattle.cvss_explain.specs.Lines.{TitledFigure, rated_text, rows_text}
use Rattle.cvss_explain.specs.declared.step.Amount.{Amount}
use Rattle.cvss_explain.specs.declared.step.Amount.TheVariants.{Number, Score, Rated}
use Rattle.cvss_explain.specs.declared.step.Quantity.{Quantity}
use Rattle.cvss_explain.specs.declared.step.Quantity.TheVariants.{Iss, Impact, Exploitability, Factor, BeforeRounding, BaseScore, TemporalScore, Miss, ModifiedImpact, ModifiedExploitability, BeforeFirstRounding, FirstScore, AdjustedImpact, AdjustedBase, AdjustedTemporal, EnvironmentalScore}
use Rattle.cvss_explain.specs.declared.step.Step.{Step}
use Rattle.cvss_explain.specs.declared.object.Entry.{Entry}
use Rattle.cvss_explain.specs.declared.object.Entry.TheVariants.{Value, Severity}
use Rattle.cvss_json.specs.Json.{Member, decimal_text, string_text, tenths_text}
use Rattle.cvss_vector.specs.Answers.{score_of_tenths}
use Rattle.cvss_vector.specs.Published.{severity_within}

-- the key of a quantity in an object, and its title for people
abbrev pub words_of : Quantity → List ℕ × List ℕ
words_of Iss = (codes "iss", codes "Impact sub-score (ISS)")
words_of Impact = (codes "impact", codes "Impact")
words_of Exploitability = (codes "exploitability", codes "Exploitability")
words_of Factor = (codes "f", codes "f(Impact)")
words_of BeforeRounding = (codes "number", codes "Before rounding")
words_of BaseScore = (codes "score", codes "Base score")
words_of TemporalScore = (codes "score", codes "Temporal score")
words_of Miss = (codes "miss", codes "Modified impact sub-score (MISS)")
words_of ModifiedImpact = (codes "modifiedImpact", codes "Modified impact")
words_of ModifiedExploitability = (codes "modifiedExploitability", codes "Modified exploitability")
words_of BeforeFirstRounding = (codes "firstNumber", codes "Before the first rounding")
words_of FirstScore = (codes "firstScore", codes "After the first rounding")
words_of AdjustedImpact = (codes "adjustedImpact", codes "Adjusted impact")
words_of AdjustedBase = (codes "adjustedBase", codes "Adjusted base score")
words_of AdjustedTemporal = (codes "adjustedTemporal", codes "Adjusted temporal score")
words_of EnvironmentalScore = (codes "score", codes "Environmental score")

-- the step says so many ten-millionths of the quantity, of which this holds
pub record IsNumber (quantity : Quantity) (Is : ℤ → Type 0) (step : Step) : Type 0 where
  pub count : ℤ
  pub is_count : Is count
  pub is : step ≡ record { quantity = quantity; amount = Number count }

-- the step says a score in tenths, with its severity or without, of whose count of 10^-24 this holds
pub record IsScore (quantity : Quantity) (amount : ℕ → Amount) (Is : ℤ → Type 0) (step : Step) : Type 0 where
  pub tenths : ℕ
  pub is_score : Is (score_of_tenths tenths)
  pub is : step ≡ record { quantity = quantity; amount = amount tenths }

-- each step is as it is said
abbrev pub AreSteps : List (Step → Type 0) → List Step → Type 0
AreSteps [] [] = ⊤
AreSteps (Is ∷ more) (step ∷ steps) = Is step × AreSteps more steps
AreSteps _ _ = ⊥

-- the text of an amount
abbrev pub value_text : Amount → List ℕ
value_text (Number count) = decimal_text count
value_text (Score tenths) = tenths_text tenths
value_text (Rated bounds tenths) = tenths_text tenths

-- the severity of a score that has one
abbrev pub severity_member : Amount → Option Member
severity_member (Rated bounds tenths) = Some (codes "severity", string_text (severity_text (severity_within bounds (score_of_tenths tenths))))
severity_member amount = None

-- the member of an object of steps: the amount of the step at an index, or its severity
abbrev pub entry_member : List Step → Entry → Option Member
entry_member steps (Value index) = option_map (λ step. ((words_of step.quantity).0, value_text step.amount)) (slice_get steps index)
entry_member steps (Severity index) = option_map_or (λ step. severity_member step.amount) (slice_get steps index) None

-- the amount for people
abbrev pub amount_text : Amount → List ℕ
amount_text (Rated bounds tenths) = rated_text tenths (severity_within bounds (score_of_tenths tenths))
amount_text amount = value_text amount

-- the row of a step for people
abbrev pub row_of : Step → TitledFigure
row_of step = ((words_of step.quantity).1, amount_text step.amount)

-- the lines of steps
abbrev pub steps_lines : List Step → List ℕ
steps_lines steps = rows_text (map row_of steps)

-- the steps to the base score, and to the scores of the other groups of metrics where they are shown
abbrev pub ways_lines : List Step → Bool → List Step → Bool → List Step → List ℕ
ways_lines base has_temporal temporal has_environmental environmental =
    steps_lines base
    ++ (if has_temporal then steps_lines temporal else [])
    ++ (if has_environmental then steps_lines environmental else [])
